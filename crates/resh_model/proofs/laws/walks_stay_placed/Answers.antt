use Rattle.resh_model.proofs.orders.Placed.{stays_placed, holdings_rise, holdings_keep_all}
use Rattle.resh_model.proofs.laws.walks_stay_placed.Goals as goal

pub returns-clause-placed : goal.returns-clause-placed
returns-clause-placed c = stays_placed

pub returns-clause-rise : goal.returns-clause-rise
returns-clause-rise c = holdings_rise

pub returns-clause-whole : goal.returns-clause-whole
returns-clause-whole c = holdings_keep_all
