use Rattle.resh_bag.proofs.shards.Merged.{parts_merge}
use Rattle.resh_bag.proofs.laws.parts_merge.Goals as goal

pub returns : goal.returns
returns c = parts_merge
