use Rattle.resh_rounds.proofs.Running.{opens_running, stays_running}
use Rattle.resh_rounds.proofs.laws.running_stays.Goals as goal

pub returns-clause-opens : goal.returns-clause-opens
returns-clause-opens c = opens_running

pub returns-clause-stays : goal.returns-clause-stays
returns-clause-stays c = stays_running
