use Rattle.resh_core.specs.Cores.{tolds}
use Rattle.resh_core.specs.Sweeping.{HasTried, tell_trials}
use Rattle.resh_core.proofs.sweeping.try_tells.Given as goal

abbrev pub invariant-loop-shard : goal.invariant-loop-shard
invariant-loop-shard g l =
    HasTried l.setup l.initial.state (tolds g.L.Luck.told l.initial.lucks) (tell_trials l.shard) l.state (tolds g.L.Luck.told l.lucks)
