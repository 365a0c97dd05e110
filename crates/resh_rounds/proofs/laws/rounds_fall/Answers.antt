use Rattle.resh_rounds.proofs.Rounds.{rounds_fall as falling}
use Rattle.resh_rounds.proofs.laws.rounds_fall.Goals as goal

pub returns : goal.returns
returns c = falling
