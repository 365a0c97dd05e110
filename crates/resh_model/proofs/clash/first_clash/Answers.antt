use Rattle.resh_model.proofs.placing.Clashing.{none_ties, tie_clashes}
use Rattle.resh_model.proofs.clash.first_clash.Goals as goal

pub returns-in-None : goal.returns-in-None
returns-in-None c =
    none_ties c.args.map.now c.args.new_map.now c.args.collection.now c.requires c.in_ok-documents.documents c.in_ok-documents.ensures c.in_ok-seats.seats.items c.in_ok-seats.ensures.seating c.in_ok-seats.ensures.sorted
    c.as_slice.result.now c.as_slice.ensures.value c.in-None.ensures

pub returns : goal.returns
returns c =
    tie_clashes c.args.map.now c.args.new_map.now c.args.collection.now c.requires c.in_ok-documents.documents c.in_ok-documents.ensures c.in_ok-seats.seats.items c.in_ok-seats.ensures.seating c.in_ok-seats.ensures.sorted
    c.as_slice.result.now c.as_slice.ensures.value c.in-Some.place c.index.result.now c.in-Some.ensures c.index.ensures
    _ _ (λ i. (c.in_ok-clash-in-Some.ensures.shard i).0) c.in_ok-clash-in-Some.ensures.id
