use Rattle.resh_leading.proofs.Feeding.{few_feeds}
use Rattle.resh_leading.proofs.laws.feeds_are_few.Goals as goal

pub returns : goal.returns
returns c = few_feeds
