use Rattle.resh_core.proofs.TrialLaws.{tried_both}
use Rattle.resh_core.proofs.sweeping.make_round.Goals as goal

pub returns : goal.returns
returns g c =
    tried_both _ _ _ _ _ _ _ _ _
    (tried_both _ _ _ _ _ _ _ _ _
    (tried_both _ _ _ _ _ _ _ _ _
    (tried_both _ _ _ _ _ _ _ _ _ c.in_ok-try_clients.ensures
    (tried_both _ _ _ _ _ _ _ _ _ c.in_ok-try_step.ensures c.in_ok-try_tells.ensures))
    c.in_ok-try_recipients.ensures)
    c.in_ok-try_reports.ensures)
    c.in_ok-try_step-2.ensures
