use Rattle.resh_bag.proofs.shards.Parting.{keeps_all}
use Rattle.resh_bag.proofs.laws.placement_keeps_all.Goals as goal

pub returns : goal.returns
returns c = keeps_all
