use Rattle.std.proofs.Common.{◌≡◌, [], drop}
use Rattle.resh_value.specs.Change.{with_fields}
use Rattle.resh_ops.specs.Changes.{assigned}
use Rattle.resh_ops.proofs.difference.assigned.Given as goal

abbrev pub invariant-loop-name : goal.invariant-loop-name
invariant-loop-name l = with_fields l.assign (assigned l.before (drop l.name-index l.name-items)) ≡ with_fields [] (assigned l.before l.name-items)
