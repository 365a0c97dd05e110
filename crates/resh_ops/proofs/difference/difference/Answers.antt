use Rattle.resh_ops.proofs.Differences.{apart, leads, rising, unnamed}
use Rattle.resh_ops.proofs.difference.difference.Goals as goal

pub invariant_of-result : goal.invariant_of-result
invariant_of-result c = record { apart = apart _ _ _ _ c.in_ok-assign.ensures.fields c.in_ok-unset.ensures.names c.assigned.ensures.rising }

pub returns-clause-leads : goal.returns-clause-leads
returns-clause-leads c = leads _ _ _ _ c.in_ok-assign.ensures.fields c.in_ok-unset.ensures.names c.unset.ensures.rising c.assigned.ensures.rising

pub returns-clause-rising : goal.returns-clause-rising
returns-clause-rising c = rising _ _ _ _ c.in_ok-assign.ensures.fields c.in_ok-unset.ensures.names c.assigned.ensures.rising

pub returns-clause-named : goal.returns-clause-named
returns-clause-named c = unnamed _ _ _ _ c.in_ok-assign.ensures.fields c.in_ok-unset.ensures.names c.unset.ensures.rising c.assigned.ensures.rising
