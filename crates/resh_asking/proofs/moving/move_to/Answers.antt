use Rattle.std.proofs.Common.{refl, sym, [], ◌∷◌}
use Rattle.resh_asking.proofs.Answering.{moves_to, refreshes_turn, waits_turn}
use Rattle.resh_asking.proofs.moving.move_to.Goals as goal

pub returns-in-Waits : goal.returns-in-Waits
returns-in-Waits c =
    waits_turn c.args.setup.now c.args.cluster.now c.args.client c.args.command.now (c.args.from ∷ []) c.requires.reached.next c.requires.reached.plain c.requires.reached.first c.args.cluster.now
    c.shown-waits.result c.in_ok-held.held (c.args.to ∷ [])
    (moves_to c.args.setup.now c.args.cluster.now c.args.client c.args.command.now c.requires.of c.args.from c.requires.leaves.there c.requires.reached c.args.to c.args.document c.requires.leaves)
    c.in_ok-held.ensures (sym c.in-Waits.ensures) c.shown-waits.ensures refl

pub returns-in_ok-refresh-in-Refreshes : goal.returns-in_ok-refresh-in-Refreshes
returns-in_ok-refresh-in-Refreshes c =
    refreshes_turn c.args.setup.now c.args.cluster.now c.args.client c.args.command.now (c.args.from ∷ []) c.requires.reached.next c.requires.reached.plain c.requires.reached.first c.refresh.new.cluster
    c.shown-refreshed.result c.in_ok-held.held (c.args.to ∷ [])
    (moves_to c.args.setup.now c.args.cluster.now c.args.client c.args.command.now c.requires.of c.args.from c.requires.leaves.there c.requires.reached c.args.to c.args.document c.requires.leaves)
    c.in_ok-held.ensures (sym c.in-Refreshes.ensures) c.shown-refreshed.ensures c.in_ok-refresh-in-Refreshes.ensures

pub carry-requires-clause-carried : goal.carry-requires-clause-carried
carry-requires-clause-carried c = record {
  filed = c.in_ok-show_filed-in-Serves.ensures.filed;
  serves = sym c.in-Serves.ensures;
  cells = c.in_ok-held.ensures;
  there = c.in_ok-show_filed-in-Serves.ensures.there;
}
