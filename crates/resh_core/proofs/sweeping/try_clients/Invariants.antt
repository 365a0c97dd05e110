use Rattle.resh_core.specs.Cores.{tolds}
use Rattle.resh_core.specs.Sweeping.{HasTried, client_trials}
use Rattle.resh_core.proofs.sweeping.try_clients.Given as goal

abbrev pub invariant-loop-client : goal.invariant-loop-client
invariant-loop-client g l =
    HasTried l.setup l.initial.state (tolds g.L.Luck.told l.initial.lucks) (client_trials l.client) l.state (tolds g.L.Luck.told l.lucks)
