use Rattle.resh_bag.proofs.answers.Finding.{doings_find}
use Rattle.resh_bag.proofs.laws.doings_find.Goals as goal

pub returns : goal.returns
returns c = doings_find
