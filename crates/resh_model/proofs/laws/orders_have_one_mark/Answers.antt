use Rattle.resh_model.proofs.orders.Aborts.{drops_at_once, drops_only_there}
use Rattle.resh_model.proofs.orders.Marking.{has_one_mark}
use Rattle.resh_model.proofs.laws.orders_have_one_mark.Goals as goal

pub returns-clause-mark : goal.returns-clause-mark
returns-clause-mark c = has_one_mark

pub returns-clause-at_once : goal.returns-clause-at_once
returns-clause-at_once c = drops_at_once

pub returns-clause-only_there : goal.returns-clause-only_there
returns-clause-only_there c = drops_only_there
