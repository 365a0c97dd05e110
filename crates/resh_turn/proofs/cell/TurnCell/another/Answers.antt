use Rattle.std.proofs.Common.{rules, arith, ap}
use Rattle.resh_turn.proofs.Steps.{makes_pass}
use Rattle.resh_turn.specs.Turns.{boxed}
use Rattle.resh_turn.proofs.cell.TurnCell.another.Goals as goal

pub split_seat-seat-requires : goal.split_seat-seat-requires
split_seat-seat-requires g c =
    let first = c.requires.first in
    let made = ap (λ m. m.0.made) first in
    let few = ap (λ t. t.passes) c.self.view_is in
    let count = c.self.invariant.1 in
    let room = c.requires.room in
    (search rules, search rules, makes_pass (boxed g.S.Journal.start) (boxed g.S.Journal.journal) _ _ _ _ (ap (λ m. m.0.live) first) (ap (λ m. m.0.holds) first) (ap (λ m. m.0.makes) first) (omega arith))
