use Rattle.std.proofs.Common.{rules}
use mathlib.Core.Option.{none}
use Rattle.atomic_table.specs.Table.{step}
use Rattle.resh_turn.proofs.Steps.{takes_turn, took, carries}
use Rattle.resh_turn.specs.Turns.{boxed}
use Rattle.resh_turn.proofs.cell.TurnCell.try_take.Goals as goal

pub compare_exchange-found-requires : goal.compare_exchange-found-requires
compare_exchange-found-requires g c =
    let pass = c.pass.invariant in
    (search rules, search rules, takes_turn (boxed g.S.Journal.start) (boxed g.S.Journal.journal) _ _ _ _ _ pass.0 pass.1 pass.2)

pub exchange-requires : goal.exchange-requires
exchange-requires g c =
    let found = c.compare_exchange-found in
    let took_it = took (boxed g.S.Journal.start) (boxed g.S.Journal.journal) (step 1 0 0 1 none) c.pass.inside.seat.me found.new.seat.me found.result c.if-found-ne-FREE.false found.ensures.2 in
    (search rules, carries (boxed g.S.Journal.start) (boxed g.S.Journal.journal) found.new.seat.me took_it.0 _ took_it.1)
