use Rattle.std.proofs.Common.{sym, ◌∙◌, arith}
use Rattle.resh_value.proofs.Standing.{stands_here, goes_below, goes_above, goes_between}
use Rattle.resh_value.proofs.places.place_of.Goals as goal

pub returns-in-Equal : goal.returns-in-Equal
returns-in-Equal g c =
    stands_here c.args.pairs.now c.args.name.now c.as_bytes.result.now _ c.index-pairs-middle.result (omega (arith, c.loop-low.invariant.within)) c.as_bytes.ensures c.requires (sym c.cmp.ensures ∙ c.in-Equal.is)

pub loop-low-preserved-in-Less : goal.loop-low-preserved-in-Less
loop-low-preserved-in-Less g c =
    goes_below c.args.pairs.now c.args.name.now c.as_bytes.result.now _ c.index-pairs-middle.result (omega (arith, c.loop-low.invariant.within)) c.as_bytes.ensures c.loop-low.low c.loop-low.high c.loop-low.invariant (omega arith) (sym c.cmp.ensures ∙ c.in-Less.is)

pub loop-low-preserved : goal.loop-low-preserved
loop-low-preserved g c =
    goes_above c.args.pairs.now c.args.name.now c.as_bytes.result.now _ c.index-pairs-middle.result (omega (arith, c.loop-low.invariant.within)) c.as_bytes.ensures c.loop-low.low c.loop-low.high c.loop-low.invariant (omega arith) (sym c.cmp.ensures ∙ c.in-Greater.is)

pub returns : goal.returns
returns g c = goes_between c.args.name.now c.args.pairs.now c.loop-low.low c.loop-low.high c.requires c.loop-low.invariant (omega arith)
