use Rattle.resh_sweeps.specs.Laws.{rounds_left}
use Rattle.resh_core.specs.Cores.{run_of, tolds}
use Rattle.resh_core.specs.Making.{core_of}
use Rattle.resh_core.specs.Sweeping.{HasRounds}
use Rattle.resh_core.proofs.sweeping.sweep.Given as goal

abbrev pub invariant-rounds : goal.invariant-rounds
invariant-rounds g l =
    HasRounds l.setup l.initial.state (tolds g.L.Luck.told l.initial.lucks) l.state (tolds g.L.Luck.told l.lucks)

abbrev pub decreases-rounds : goal.decreases-rounds
decreases-rounds g l = rounds_left l.setup (run_of (core_of l.setup l.state) (tolds g.L.Luck.told l.lucks))
