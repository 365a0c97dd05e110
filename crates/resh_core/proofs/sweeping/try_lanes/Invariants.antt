use Rattle.resh_core.specs.Cores.{tolds}
use Rattle.resh_core.specs.Sweeping.{HasTried, lane_trials}
use Rattle.resh_core.proofs.sweeping.try_lanes.Given as goal

abbrev pub invariant-loop-lane : goal.invariant-loop-lane
invariant-loop-lane g l =
    HasTried l.setup l.initial.state (tolds g.L.Luck.told l.initial.lucks) (lane_trials l.recipient l.donor l.lane) l.state (tolds g.L.Luck.told l.lucks)
