use Rattle.std.proofs.Common.{refl, sym}
use Rattle.resh_asking.proofs.Answering.{first_refreshes, first_waits}
use Rattle.resh_asking.proofs.answers.come.Goals as goal

pub returns-in-Waits : goal.returns-in-Waits
returns-in-Waits c =
    first_waits c.args.setup.now c.args.cluster.now c.args.client c.args.command.now c.args.shards.now c.requires.next c.requires.plain c.requires.first c.args.cluster.now c.shown-waits.result c.in_ok-held.held
    c.in_ok-held.ensures (sym c.in-Waits.ensures) c.shown-waits.ensures refl

pub returns-in_ok-refresh-in-Refreshes : goal.returns-in_ok-refresh-in-Refreshes
returns-in_ok-refresh-in-Refreshes c =
    first_refreshes c.args.setup.now c.args.cluster.now c.args.client c.args.command.now c.args.shards.now c.requires.next c.requires.plain c.requires.first c.refresh.new.cluster c.shown-refreshed.result c.in_ok-held.held
    c.in_ok-held.ensures (sym c.in-Refreshes.ensures) c.shown-refreshed.ensures c.in_ok-refresh-in-Refreshes.ensures

pub reach-requires-clause-served : goal.reach-requires-clause-served
reach-requires-clause-served c = record {
  reached = record { next = c.requires.next; plain = c.requires.plain; first = c.requires.first; serves = sym c.in-Serves.ensures };
  cells = c.in_ok-held.ensures;
}
