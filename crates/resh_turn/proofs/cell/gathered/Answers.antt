use Rattle.std.proofs.Common.{◌≡◌, ◌∙◌, ap, sym, [], ◌∷◌, ◌++◌, map, append-nil}
use Rattle.resh_turn.specs.Held.{known_of}
use Rattle.resh_turn.proofs.Steps.{takes_in}
use Rattle.resh_turn.proofs.Numbering.{last_of, goes_over}
use Rattle.resh_turn.specs.Turns.{boxed}
use Rattle.resh_turn.proofs.cell.gathered.Goals as goal

pub loop-pass-init : goal.loop-pass-init
loop-pass-init g c =
    let is = c.in-Some.ensures.items in
    let seat = c.into_seat-seat.ensures in
    let rest = c.pop.new.self.items in
    let known = c.into_seat-seat.result.me.0.known in
    let cut = last_of (λ pass. pass.cell ≡ c.args.table.now.shared.table_id) c.args.passes.items rest c.in-Some.last is c.requires.cells in (
      seat.cell ∙ cut.0,
      seat.waits.0,
      seat.waits.1,
      goes_over (map known_of c.args.passes.items) c.args.passes.items rest c.in-Some.last [] known is seat.known (sym (append-nil (map known_of c.args.passes.items)))
          ∙ ap (λ g. map known_of rest ++ (g ++ known ∷ [])) (sym seat.gathered),
      cut.1,
    )

pub join_seat-requires : goal.join_seat-requires
join_seat-requires g c =
    let l = c.loop-pass.invariant in
    let seat = c.into_seat.ensures in
    let cut = last_of (λ pass. pass.cell ≡ c.args.table.now.shared.table_id) c.loop-pass.passes.items c.pop-in-loop-pass.new.self.items c.in-Some-pop.pass c.in-Some-pop.ensures.items l.4 in
    (l.0, seat.cell ∙ cut.0, seat.waits.2, c.requires.words, takes_in (boxed g.S.Journal.start) (boxed g.S.Journal.journal) _ _ _ _ _ _ l.1 l.2 seat.waits.0 seat.waits.1)
