use Rattle.std.proofs.Common.{◌∙◌, sym, arith, get_or}
use Rattle.resh_luck.specs.declared.row.Kind.TheVariants.{Commit}
use Rattle.resh_luck.specs.declared.row.PlanFate.TheVariants.{CrashedBefore}
use Rattle.resh_luck.specs.declared.row.PlanRow.{PlanRow}
use Rattle.resh_luck.proofs.Meeting.{met_here, met_later, met_nowhere, still_has}
use Rattle.resh_luck.proofs.planned.span_from.Goals as goal

abbrev none : PlanRow
none = record { kind = Commit; first = 0; last = 0; fate = CrashedBefore }

pub returns-then-has-clause-span : goal.returns-then-has-clause-span
returns-then-has-clause-span c k from to =
    let row : PlanRow = get_or c.args.rows.now c.loop-row.row-index none in
    c.loop-row.invariant.alike k from (omega (arith, c.min.ensures, to))
    ∙ met_here c.args.rows.now c.loop-row.row-index none c.args.kind k c.loop-row-test.true
    (still_has row c.args.kind c.args.call k (sym c.has.ensures ∙ c.if-has.true) from (omega (arith, c.min.ensures, c.from.ensures, to)))

pub loop-row-preserved : goal.loop-row-preserved
loop-row-preserved c = record {
  later = omega (arith, c.min-until.ensures, c.loop-row.invariant.later, c.begins.ensures.later);
  alike = λ k from to.
      c.loop-row.invariant.alike k from (omega (arith, c.min-until.ensures, to))
      ∙ met_later c.args.rows.now c.loop-row.row-index none c.args.kind k c.loop-row-test.true (c.begins.ensures.before k from (omega (arith, c.min-until.ensures, to)));
}

pub returns-clause-span : goal.returns-clause-span
returns-clause-span c k from to =
    c.loop-row.invariant.alike k from to ∙ met_nowhere c.args.rows.now c.loop-row.row-index c.args.kind k (omega (arith, c.loop-row-test.false))
