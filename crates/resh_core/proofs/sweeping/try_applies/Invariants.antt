use Rattle.resh_ending.specs.Applies.{applies_left}
use Rattle.resh_core.specs.Cores.{tolds}
use Rattle.resh_core.specs.Sweeping.{HasApplied}
use Rattle.resh_core.proofs.sweeping.try_applies.Given as goal

abbrev pub invariant-applies : goal.invariant-applies
invariant-applies g l =
    HasApplied l.setup l.recipient l.donor l.lane l.initial.state (tolds g.L.Luck.told l.initial.lucks) l.state
    (tolds g.L.Luck.told l.lucks)

abbrev pub decreases-applies : goal.decreases-applies
decreases-applies g l =
    applies_left l.setup l.state.cluster (tolds g.L.Luck.told l.lucks) l.recipient l.donor l.lane
