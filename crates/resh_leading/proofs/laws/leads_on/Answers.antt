use Rattle.resh_leading.proofs.Opening.{opens_leading}
use Rattle.resh_leading.proofs.Rows.{stays_leading}
use Rattle.resh_leading.proofs.laws.leads_on.Goals as goal

pub returns-clause-opens : goal.returns-clause-opens
returns-clause-opens c = opens_leading

pub returns-clause-stays : goal.returns-clause-stays
returns-clause-stays c = stays_leading
