-- What the seats in order come to: a switch where no neighbours tie, and else a drop at the first that do.
use Rattle.std.proofs.Common.{◌≡◌, ◌<◌, ℕ, List, [], ◌∷◌, map, get_or, None, Some, refl, sym, ap, subst, ◌∙◌, arith}
use Rattle.std.proofs.lemmas.List.Elements.{All-weaker}
use Rattle.std.proofs.lemmas.Option.{slice_get-get_or}
use Rattle.std.specs.List.{All, slice_get}
use Rattle.std.specs.List.Sorted.{IsPermutation, IsSorted}
use Rattle.resh_chunks.specs.Chunks.{Chunks}
use Rattle.resh_coord.specs.declared.cause.Cause.{Cause}
use Rattle.resh_coord.specs.declared.cause.End.TheVariants.{Committed, Aborted}
use Rattle.resh_setup.specs.declared.turn.Turn.{Turn}
use Rattle.resh_setup.specs.declared.turn.Turn.TheVariants.{Switch, Drop}
use Rattle.resh_value.specs.Lookup.{id_of}
use Rattle.resh_bag.specs.Bag.{Document, opening_bag, HasDistinctPlaces}
use Rattle.resh_model.specs.Marks.{clash_at, IsRun}
use Rattle.resh_model.specs.Seats.{seat_cmp, sent_back, handed_out, IsSeated, IsSeating, IsFirstTie, TiesAt}
use Rattle.resh_model.specs.declared.seat.Seat.{Seat}
use Rattle.resh_model.proofs.placing.SeatClashes.{no_clash, first_clash}
use Rattle.resh_model.proofs.placing.Seating.{handed_parts, seated_back}

module _ (old_map new_map : Chunks) (ds : List Document) (seats : List Seat) (distinct : HasDistinctPlaces old_map ds) (seating : IsSeating old_map new_map ds seats) where
  pub back_known : (back : List Seat) (shards : ℕ) → IsPermutation (map sent_back seats) back → shards ≡ old_map.shards → All (λ s. s.shard.0 < shards) back
  back_known back shards moved is =
      All-weaker (IsSeated old_map old_map) (λ s. s.shard.0 < shards) (λ s h. subst (λ n. s.shard.0 < n) (sym is) h.known) back (seated_back old_map new_map ds seats back seating moved).seated

  module _ (sorted : IsSorted seat_cmp seats) (seen : List Seat) (same : seen ≡ seats) (shards : ℕ) (order : List Turn) (holdings : List (List Document)) where
    pub switches : IsFirstTie seen None → shards ≡ new_map.shards → order ≡ Switch ∷ [] → holdings ≡ handed_out shards seats → IsRun old_map new_map (opening_bag old_map ds) order Committed holdings
    switches untied known turn handed =
        IsRun.switched (no_clash old_map new_map ds distinct seats seating sorted (subst (λ l. IsFirstTie l None) same untied)) turn refl
        (handed ∙ ap (λ n. handed_out n seats) known ∙ handed_parts old_map new_map ds distinct seats seating sorted)

    pub drops : (place : ℕ) (a : Seat) (cause copy : Cause) (back : List Seat) → TiesAt seen place → a ≡ get_or seats place a → cause ≡ clash_at a.shard.0 (id_of a.document) → copy ≡ cause
        → IsPermutation (map sent_back seats) back → IsSorted seat_cmp back → shards ≡ old_map.shards → order ≡ Drop cause ∷ [] → holdings ≡ handed_out shards back → IsRun old_map new_map (opening_bag old_map ds) order (Aborted copy) holdings
    drops place a cause copy back ties is named copied moved back_sorted known turn handed =
        IsRun.dropped a.shard.0 (id_of a.document) (first_clash old_map new_map ds distinct seats seating sorted place tie a here)
        (turn ∙ ap (λ w. Drop w ∷ []) named) (ap Aborted (copied ∙ named))
        (handed ∙ ap (λ n. handed_out n back) known ∙ handed_parts old_map old_map ds distinct back (seated_back old_map new_map ds seats back seating moved) back_sorted)
      where
        tie : TiesAt seats place
        tie = subst (λ l. TiesAt l place) same ties

        here : slice_get seats place ≡ Some a
        here = slice_get-get_or seats place a (omega (arith, tie.within)) ∙ ap Some (sym is)
