use Rattle.std.proofs.Common.{◌≡◌, ◌++◌, map, take, drop}
use Rattle.resh_model.specs.Seats.{sent_back}
use Rattle.resh_model.proofs.seat.send_back.Given as goal

abbrev pub invariant-loop-seat : goal.invariant-loop-seat
invariant-loop-seat l = l.seats ≡ map sent_back (take l.seat-index l.initial.seats) ++ drop l.seat-index l.initial.seats
