use Rattle.resh_model.proofs.placing.HandedOut.{seated_more}
use Rattle.resh_model.proofs.seat.unsorted_seats.Goals as goal

pub loop-document-preserved : goal.loop-document-preserved
loop-document-preserved c =
    let more = seated_more c.args.from_map.now c.args.to_map.now _ _ _ _ c.in_ok-push.ensures.items c.loop-document.invariant.same c.loop-document.invariant.seated
    (record { goes = c.owner_of.ensures.owner; comes = c.owner_of-in-loop-document.ensures.owner; known = c.owner_of.ensures.there; was_known = c.owner_of-in-loop-document.ensures.there }) in
    record { same = more.0; seated = more.1 }
