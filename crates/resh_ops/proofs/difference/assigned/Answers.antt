use Rattle.resh_ops.proofs.Differences.{puts_assigned}
use Rattle.resh_ops.proofs.difference.assigned.Goals as goal

pub returns-clause-fields : goal.returns-clause-fields
returns-clause-fields c = puts_assigned _ _ _ _ _ c.pairs-name-items.ensures.rising c.pairs-name-items.ensures.fields c.loop-name-test.false c.loop-name.invariant
