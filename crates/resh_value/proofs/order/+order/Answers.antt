use Rattle.std.proofs.Common.{arith, ap, ◌∙◌}
use Rattle.std.proofs.cmp.SliceLoops.{ended}
use Rattle.resh_value.specs.Depth.{levels_of}
use Rattle.resh_value.specs.Order.{compare_of, compare_fields}
use Rattle.resh_value.proofs.levels.Insides.{deepest, items_levels, levels-Doc, levels-Array, item_levels, field_levels}
use Rattle.resh_value.proofs.order.+order.Goals as goal

pub compare_arrays-compare_values-found-requires : goal.compare_arrays-compare_values-found-requires
compare_arrays-compare_values-found-requires t c =
    let h = item_levels c.args.xs.now c.loop-i.i c.index-xs-i.result (omega arith) c.index-xs-i.is in (omega (arith, h), tt)

pub compare_arrays-returns : goal.compare_arrays-returns
compare_arrays-returns t c = ended c.args.xs.now c.args.ys.now c.loop-i.i c.cmp.result (omega arith) c.cmp.ensures compare_of ∙ c.loop-i.invariant.2

pub compare_contents-compare_documents-requires : goal.compare_contents-compare_documents-requires
compare_contents-compare_documents-requires t c =
    (omega (arith, ap levels_of c.in-Doc-Doc.is-0, levels-Doc c.in-Doc-Doc.fs, ap deepest c.pairs.ensures.fields), tt)

pub compare_contents-compare_arrays-requires : goal.compare_contents-compare_arrays-requires
compare_contents-compare_arrays-requires t c =
    (omega (arith, ap levels_of c.in-List-List.is-0, levels-Array c.in-List-List.xs, ap items_levels c.as_slice.ensures), tt)

pub compare_documents-compare_pair-found-requires : goal.compare_documents-compare_pair-found-requires
compare_documents-compare_pair-found-requires t c =
    let h = field_levels c.args.fs.now c.loop-i.i c.index-fs-i.result (omega arith) c.index-fs-i.is in (omega (arith, h), tt)

pub compare_documents-returns : goal.compare_documents-returns
compare_documents-returns t c = ended c.args.fs.now c.args.gs.now c.loop-i.i c.cmp.result (omega arith) c.cmp.ensures compare_fields ∙ c.loop-i.invariant.2
