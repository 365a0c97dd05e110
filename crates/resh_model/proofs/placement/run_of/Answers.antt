use Rattle.resh_model.proofs.placing.SeatedRuns.{back_known, switches, drops}
use Rattle.resh_model.proofs.placement.run_of.Goals as goal

pub hand_out-requires-in-Some : goal.hand_out-requires-in-Some
hand_out-requires-in-Some c =
    back_known c.args.old_map.now c.args.new_map.now c.args.documents c.in_ok-seats.seats.items c.requires c.in_ok-seats.ensures.seating
    c.in_ok-seats_back-in-Some.field-0.items c.shards-in-Some.result c.in_ok-seats_back-in-Some.ensures.same c.shards-in-Some.ensures

pub returns-in_ok-one_turn-in-None : goal.returns-in_ok-one_turn-in-None
returns-in_ok-one_turn-in-None c =
    switches c.args.old_map.now c.args.new_map.now c.args.documents c.in_ok-seats.seats.items c.requires c.in_ok-seats.ensures.seating c.in_ok-seats.ensures.sorted c.as_slice.result.now c.as_slice.ensures.value
    c.shards.result c.in_ok-one_turn-in-None.field-0 c.in_ok-holdings-in-None.holdings
    c.in-None.ensures c.shards.ensures c.in_ok-one_turn-in-None.ensures c.in_ok-holdings-in-None.ensures

pub returns-in_ok-holdings-in-Some : goal.returns-in_ok-holdings-in-Some
returns-in_ok-holdings-in-Some c =
    drops c.args.old_map.now c.args.new_map.now c.args.documents c.in_ok-seats.seats.items c.requires c.in_ok-seats.ensures.seating c.in_ok-seats.ensures.sorted c.as_slice.result.now c.as_slice.ensures.value
    c.shards-in-Some.result c.in_ok-order-in-Some.order c.in_ok-holdings-in-Some.holdings
    c.in-Some.place c.index.result.now c.in_ok-cause-in-Some.cause c.in_ok-copy-in-Some.field-0 c.in_ok-seats_back-in-Some.field-0.items
    c.in-Some.ensures c.index.ensures c.in_ok-cause-in-Some.ensures c.in_ok-copy-in-Some.ensures
    c.in_ok-seats_back-in-Some.ensures.same c.in_ok-seats_back-in-Some.ensures.sorted c.shards-in-Some.ensures c.in_ok-order-in-Some.ensures c.in_ok-holdings-in-Some.ensures
