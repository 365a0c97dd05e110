use Rattle.std.proofs.Common.{◌≡◌, map, take}
use Rattle.std.specs.List.{flat_map}
use Rattle.resh_ops.specs.Updates.{paths_of}
use Rattle.resh_ops.proofs.conflicts.paths_in.Given as goal

abbrev pub invariant-loop-action : goal.invariant-loop-action
invariant-loop-action l = map (λ p. p.now) l.paths.items ≡ flat_map paths_of (take l.action-index l.actions)
