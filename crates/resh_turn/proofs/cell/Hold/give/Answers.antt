use Rattle.std.proofs.Common.{rules, ap}
use Rattle.atomic_table.specs.Table.{rest}
use Rattle.resh_turn.proofs.Steps.{gives_turn}
use Rattle.resh_turn.specs.Turns.{boxed}
use Rattle.resh_turn.proofs.cell.Hold.give.Goals as goal

pub store-requires : goal.store-requires
store-requires g c =
    let held = c.self.invariant.1 in
    let seat = c.self.inside.seat in
    (search rules, search rules, gives_turn (boxed g.S.Journal.start) (boxed g.S.Journal.journal) _ _ _ _ c.exchange.new.seat.me seat.me.0 c.self.inside.story c.self.inside.number (rest seat.me.1) c.exchange.ensures.3 (ap rest held.2) held.0 held.1 held.3 held.4 held.5)
