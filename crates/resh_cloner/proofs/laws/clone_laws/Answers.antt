use Rattle.resh_cloner.proofs.Cloned.{clone_goes_on, clones_each, clones_in_order, stays_cloned}
use Rattle.resh_cloner.proofs.laws.clone_laws.Goals as goal

pub returns-clause-each : goal.returns-clause-each
returns-clause-each c = clones_each

pub returns-clause-in_order : goal.returns-clause-in_order
returns-clause-in_order c = clones_in_order

pub returns-clause-goes_on : goal.returns-clause-goes_on
returns-clause-goes_on c = clone_goes_on

pub returns-clause-stays : goal.returns-clause-stays
returns-clause-stays c = stays_cloned
