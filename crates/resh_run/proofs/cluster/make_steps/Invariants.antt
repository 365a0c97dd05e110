use Rattle.std.proofs.Common.{◌≡◌, take}
use Rattle.resh_core.specs.Cores.{tolds}
use Rattle.resh_run.proofs.Steps.{HaveShown}
use Rattle.resh_run.proofs.cluster.make_steps.Given as goal

abbrev pub invariant-loop-event : goal.invariant-loop-event
invariant-loop-event g l = record {
  shown : HaveShown l.setup (take l.event-index l.event-items) l.initial.core (tolds g.L.Luck.told l.initial.lucks) l.event-index l.lines l.core (tolds g.L.Luck.told l.lucks);
  number : l.number ≡ l.event-index;
}
