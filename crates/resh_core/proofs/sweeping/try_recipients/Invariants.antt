use Rattle.resh_core.specs.Cores.{tolds}
use Rattle.resh_core.specs.Sweeping.{HasTried, recipient_trials}
use Rattle.resh_core.proofs.sweeping.try_recipients.Given as goal

abbrev pub invariant-loop-recipient : goal.invariant-loop-recipient
invariant-loop-recipient g l =
    HasTried l.setup l.initial.state (tolds g.L.Luck.told l.initial.lucks) (recipient_trials l.setup l.recipient) l.state (tolds g.L.Luck.told l.lucks)
