use Rattle.std.proofs.Common.{◌≡◌, false}
use Rattle.std.specs.List.{AllAdjacentBelow}
use Rattle.resh_model.specs.Seats.{same_target}
use Rattle.resh_model.proofs.seat.first_tie.Given as goal

abbrev pub invariant-loop-place : goal.invariant-loop-place
invariant-loop-place l = AllAdjacentBelow (λ a b. same_target a b ≡ false) l.seats l.place
