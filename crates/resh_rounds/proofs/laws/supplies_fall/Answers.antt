use Rattle.resh_rounds.proofs.Stepping.{steps_pay}
use Rattle.resh_rounds.proofs.Supplying.{no_event_adds}
use Rattle.resh_rounds.proofs.laws.supplies_fall.Goals as goal

pub returns-clause-adds : goal.returns-clause-adds
returns-clause-adds c = no_event_adds

pub returns-clause-pays : goal.returns-clause-pays
returns-clause-pays c = steps_pay
