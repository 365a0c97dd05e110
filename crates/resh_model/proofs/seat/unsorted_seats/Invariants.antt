use Rattle.std.proofs.Common.{◌≡◌, map}
use Rattle.std.specs.List.{All}
use Rattle.resh_model.specs.Seats.{IsSeated}
use Rattle.resh_model.proofs.seat.unsorted_seats.Given as goal

abbrev pub invariant-loop-document : goal.invariant-loop-document
invariant-loop-document l = record { same : map (λ s. s.document) l.seats.items ≡ l.yielded; seated : All (IsSeated l.from_map l.to_map) l.seats.items }
