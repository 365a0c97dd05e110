use Rattle.std.proofs.Common.{◌≡◌, sym, subst, true}
use Rattle.resh_turn.specs.Replay.{Each}
use Rattle.resh_turn.specs.Held.{Cell, IsEnd, has_all}
use Rattle.resh_turn.proofs.Ending.{some_pass, ends, is_there, is_end}
use Rattle.resh_turn.specs.Turns.{boxed}
use Rattle.resh_turn.proofs.cell.TurnCell.ended.Goals as goal

pub gathered-seat-requires-clause-some : goal.gathered-seat-requires-clause-some
gathered-seat-requires-clause-some g c =
    some_pass c.self.inside.passes c.args.passes.items c.self.invariant.0 (subst (λ t. has_all t.passes c.args.passes.items ≡ true) (sym c.self.view_is) c.requires.whole)

pub gathered-seat-requires-clause-cells : goal.gathered-seat-requires-clause-cells
gathered-seat-requires-clause-cells g c = subst (λ t. Each (λ pass. pass.cell ≡ t.cell) c.args.passes.items) (sym c.self.view_is) c.requires.cells

pub unreachable-requires : goal.unreachable-requires
unreachable-requires g c =
    let seat = c.gathered-seat.ensures in
    let cell : Cell g.row.S-State.Denot = record { cell = c.self.inside.table.shared.table_id; start = g.S.Journal.start c.self.inside.table.shared.key.value.value; passes = c.self.inside.passes } in
    let whole = subst (λ t. has_all t.passes c.args.passes.items ≡ true) (sym c.self.view_is) c.requires.whole in
    let e = ends (boxed g.S.Journal.start) (boxed g.S.Journal.journal) cell _ c.args.passes.items _ _ _ _ c.self.invariant.1 whole seat.waits.0 seat.waits.1 seat.known c.close_with-closed.ensures.values.2 in
    let there = is_there (boxed g.S.Journal.start) (boxed g.S.Journal.journal) cell c.args.passes.items _ e c.take-story.result c.take-story.ensures.value in
    c.in_default.not-Some there.0 there.1

pub returns : goal.returns
returns g c =
    let seat = c.gathered-seat.ensures in
    let cell : Cell g.row.S-State.Denot = record { cell = c.self.inside.table.shared.table_id; start = g.S.Journal.start c.self.inside.table.shared.key.value.value; passes = c.self.inside.passes } in
    let whole = subst (λ t. has_all t.passes c.args.passes.items ≡ true) (sym c.self.view_is) c.requires.whole in
    let e = ends (boxed g.S.Journal.start) (boxed g.S.Journal.journal) cell _ c.args.passes.items _ _ _ _ c.self.invariant.1 whole seat.waits.0 seat.waits.1 seat.known c.close_with-closed.ensures.values.2 in
    let e = is_end (boxed g.S.Journal.start) (boxed g.S.Journal.journal) cell c.args.self c.args.passes.items _ c.self.view_is e c.take-story.result c.in-Some.story c.take-story.ensures.value c.in-Some.is in
    let inside : IsEnd g.S.Journal.start g.S.Journal.journal c.args.self c.args.passes.items c.in-Some.story.value = record { start_stays = e.start_stays; known = e.known; along = e.along; below = e.below } in
    subst (λ story. IsEnd g.S.Journal.start g.S.Journal.journal c.args.self c.args.passes.items story) (sym c.into_inner.ensures) inside
