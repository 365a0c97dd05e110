use Rattle.std.proofs.Common.{◌≡◌, ◌++◌, drop}
use Rattle.resh_ops.specs.Changes.{unset}
use Rattle.resh_ops.proofs.difference.unset.Given as goal

abbrev pub invariant-loop-name : goal.invariant-loop-name
invariant-loop-name l = l.names.items ++ unset (drop l.name-index l.name-items) l.after ≡ unset l.name-items l.after
