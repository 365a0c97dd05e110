use Rattle.resh_core.specs.Cores.{tolds}
use Rattle.resh_core.specs.Sweeping.{HasTried, link_trials}
use Rattle.resh_core.proofs.sweeping.try_links.Given as goal

abbrev pub invariant-loop-donor : goal.invariant-loop-donor
invariant-loop-donor g l =
    HasTried l.setup l.initial.state (tolds g.L.Luck.told l.initial.lucks) (link_trials l.setup l.recipient l.donor) l.state (tolds g.L.Luck.told l.lucks)
