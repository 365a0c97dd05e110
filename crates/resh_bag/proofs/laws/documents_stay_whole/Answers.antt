use Rattle.resh_bag.proofs.bags.WholeHeld.{stays_whole, update_keeps_id}
use Rattle.resh_bag.proofs.laws.documents_stay_whole.Goals as goal

pub returns-clause-whole : goal.returns-clause-whole
returns-clause-whole c = stays_whole

pub returns-clause-ids : goal.returns-clause-ids
returns-clause-ids c = update_keeps_id
