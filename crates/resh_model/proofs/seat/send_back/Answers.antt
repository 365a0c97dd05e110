use Rattle.std.proofs.Common.{ap, arith, get_or}
use Rattle.std.proofs.lemmas.List.Edits.{map_over_more}
use Rattle.resh_model.specs.Seats.{sent_back}
use Rattle.resh_model.proofs.seat.send_back.Goals as goal

pub loop-seat-preserved : goal.loop-seat-preserved
loop-seat-preserved c =
    map_over_more sent_back c.args.seats.now c.loop-seat.seats c.loop-seat.seat-index (get_or c.loop-seat.seats c.loop-seat.seat-index c.seat-item.result) (omega arith) c.loop-seat.invariant
    (ap (get_or c.loop-seat.seats c.loop-seat.seat-index) c.seat-item.is)
