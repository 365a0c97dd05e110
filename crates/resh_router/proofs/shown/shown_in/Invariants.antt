use Rattle.std.proofs.Common.{◌≡◌}
use Rattle.std.specs.List.{flat_map}
use Rattle.resh_router.specs.Merging.{shown_by}
use Rattle.resh_router.proofs.shown.shown_in.Given as goal

abbrev pub invariant-loop-shard : goal.invariant-loop-shard
invariant-loop-shard l = l.shown.items ≡ flat_map shown_by l.yielded
