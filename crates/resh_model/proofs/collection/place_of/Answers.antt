use Rattle.std.proofs.Common.{arith, sym, ◌∙◌, ◌<◌, ◌≤◌, ◌≡◌, length, map, subst}
use Rattle.std.proofs.lemmas.List.{length-map}
use Rattle.resh_model.specs.Entries.{keyed}
use Rattle.resh_model.proofs.bags.Gathered.{stands_here, goes_below, goes_above, goes_between}
use Rattle.resh_model.proofs.collection.place_of.Goals as goal

pub returns-in-Equal : goal.returns-in-Equal
returns-in-Equal c =
    let long = length-map c.args.entries.now keyed in
    stands_here c.args.entries.now c.args.shard.0 c.args.id.now c.requires _ c.index-entries-middle.result (omega (arith, c.loop-low.invariant.within, long)) c.index-entries-middle.is (sym c.compare_place.ensures ∙ c.in-Equal.is)

pub loop-low-preserved-in-Less : goal.loop-low-preserved-in-Less
loop-low-preserved-in-Less c =
    let long = length-map c.args.entries.now keyed in
    goes_below c.args.entries.now c.args.shard.0 c.args.id.now _ c.index-entries-middle.result (omega (arith, c.loop-low.invariant.within, long)) c.index-entries-middle.is c.loop-low.low c.loop-low.high c.loop-low.invariant (omega arith) (omega arith) (sym c.compare_place.ensures ∙ c.in-Less.is)

pub loop-low-preserved : goal.loop-low-preserved
loop-low-preserved c =
    let long = length-map c.args.entries.now keyed in
    goes_above c.args.entries.now c.args.shard.0 c.args.id.now _ c.index-entries-middle.result (omega (arith, c.loop-low.invariant.within, long)) c.index-entries-middle.is c.loop-low.low c.loop-low.high c.loop-low.invariant (omega arith) (sym c.compare_place.ensures ∙ c.in-Greater.is)

pub returns : goal.returns
returns c = goes_between c.args.entries.now c.args.shard.0 c.args.id.now c.requires c.loop-low.low c.loop-low.high c.loop-low.invariant (omega arith)
