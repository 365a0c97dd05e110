use Rattle.resh_bag.proofs.shards.ByRecipient.{clashes_by_recipient}
use Rattle.resh_bag.proofs.laws.clashes_by_recipient.Goals as goal

pub returns : goal.returns
returns c = clashes_by_recipient
