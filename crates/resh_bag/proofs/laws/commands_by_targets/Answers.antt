use Rattle.resh_bag.proofs.shards.Locality.{answered_by_targets}
use Rattle.resh_bag.proofs.laws.commands_by_targets.Goals as goal

pub returns : goal.returns
returns c = answered_by_targets
