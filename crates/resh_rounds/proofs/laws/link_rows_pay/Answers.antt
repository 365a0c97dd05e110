use Rattle.resh_rounds.proofs.Working.{link_rows_pay as paying}
use Rattle.resh_rounds.proofs.laws.link_rows_pay.Goals as goal

pub returns : goal.returns
returns c = paying
