use Rattle.resh_model.proofs.bags.ValidSetups.{valid_is_whole}
use Rattle.resh_model.proofs.orders.Growing.{walks_stay_whole}
use Rattle.resh_model.proofs.laws.orders_stay_whole.Goals as goal

pub returns-clause-walks : goal.returns-clause-walks
returns-clause-walks c = walks_stay_whole

pub returns-clause-valid : goal.returns-clause-valid
returns-clause-valid c = valid_is_whole
