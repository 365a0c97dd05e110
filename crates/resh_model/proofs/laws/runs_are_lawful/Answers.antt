use Rattle.resh_model.proofs.orders.Lawful.{runs_are_lawful}
use Rattle.resh_model.proofs.laws.runs_are_lawful.Goals as goal

pub returns : goal.returns
returns c = runs_are_lawful
