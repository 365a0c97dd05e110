use Rattle.resh_core.proofs.TrialLaws.{tried_both}
use Rattle.resh_core.proofs.sweeping.try_link.Goals as goal

pub returns : goal.returns
returns g c =
    tried_both _ _ _ _ _ _ _ _ _
    (tried_both _ _ _ _ _ _ _ _ _ c.in_ok-try_reading.ensures
    (tried_both _ _ _ _ _ _ _ _ _ c.in_ok-try_step.ensures c.in_ok-try_lanes.ensures))
    c.in_ok-try_step-2.ensures
