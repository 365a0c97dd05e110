use Rattle.std.proofs.Common.{◌∙◌, arith}
use Rattle.resh_model.specs.States.{told}
use Rattle.resh_model.proofs.orders.Walking.{from_opening, one_turn, refused_turn, at_end}
use Rattle.resh_model.proofs.plain.walk.Goals as goal

pub loop-turn-init : goal.loop-turn-init
loop-turn-init c = from_opening c.args.setup.now c.args.turns.now (told c.in_ok-state.state) c.in_ok-state.ensures

pub loop-turn-preserved : goal.loop-turn-preserved
loop-turn-preserved c =
    one_turn c.args.setup.now c.args.turns.now (told c.loop-turn.state) c.loop-turn.turn-index c.turn-item.result (omega arith) c.turn-item.is c.loop-turn.invariant
    (c.in_ok-allows.ensures.0 c.if-not-branch.false) (told c.take.new.self) c.in_ok-take.ensures
