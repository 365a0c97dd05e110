use Rattle.std.proofs.Common.{map, subst}
use Rattle.std.proofs.lemmas.List.Sorted.{All-permutation, IsPermutation-map, IsPermutation-trans}
use Rattle.std.specs.List.Sorted.{IsPermutation}
use Rattle.resh_model.specs.Seats.{IsSeated}
use Rattle.resh_model.specs.declared.seat.Seat.{Seat}
use Rattle.resh_model.proofs.seat.seats_of.Goals as goal

pub returns-clause-seating : goal.returns-clause-seating
returns-clause-seating c =
    let moved = IsPermutation-trans _ _ _ c.in_ok-sort_by_key.ensures.permutation c.in_ok-sort.ensures.permutation in
    record {
      seated = All-permutation (IsSeated c.args.from_map.now c.args.to_map.now) _ _ moved c.in_ok-seats.ensures.seated;
      same = subst (λ l. IsPermutation l (map (λ s. s.document) c.sort.new.self.items)) c.in_ok-seats.ensures.same (IsPermutation-map (λ (s : Seat). s.document) _ _ moved);
    }
