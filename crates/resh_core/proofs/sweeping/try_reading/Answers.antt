use Rattle.resh_core.proofs.TrialLaws.{tried_reading}
use Rattle.resh_core.proofs.sweeping.try_reading.Goals as goal

pub returns : goal.returns
returns g c = tried_reading _ _ _ _ _ _ _ _ c.next_reading-event.ensures c.in_ok-try_step.ensures
