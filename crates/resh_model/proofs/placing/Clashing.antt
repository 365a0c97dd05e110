-- The seats of a bag's own documents show its first clash, and there is one first clash at most.
use Rattle.std.proofs.Common.{◌≡◌, ◌≢◌, ◌<◌, ℕ, List, length, get_or, Some, None, refl, sym, ap, subst, ◌∙◌, arith}
use Rattle.std.proofs.lemmas.Map.Lookups.{exact_pairs}
use Rattle.std.proofs.lemmas.Option.{slice_get-get_or}
use Rattle.std.specs.FinMap.{nat_cmp-IsAntisymmetric}
use Rattle.std.specs.List.{slice_get}
use Rattle.std.specs.List.Sorted.{IsSorted}
use Rattle.std.specs.Ordering.{nat_cmp, ordering_reverse}
use Rattle.std.specs.declared.cmp.Ordering.{Ordering}
use Rattle.std.specs.declared.cmp.Ordering.TheVariants.{Less, Equal, Greater}
use Rattle.resh_value.specs.Order.{compare_of}
use Rattle.resh_value.specs.OrderLaws.{compare_same}
use Rattle.resh_value.specs.declared.value.Value.{Value}
use Rattle.resh_chunks.specs.Chunks.{Chunks}
use Rattle.resh_value.specs.Lookup.{id_of}
use Rattle.resh_bag.specs.Bag.{Bag, Document, documents, opening_bag, IsPlaced}
use Rattle.resh_bag.specs.Placement.{clash_cmp, HasNoClash, IsFirstClash}
use Rattle.resh_model.specs.Seats.{clash_total, seat_cmp, IsSeating, IsFirstTie, TiesAt}
use Rattle.resh_model.specs.declared.seat.Seat.{Seat}
use Rattle.resh_model.proofs.placing.SeatClashes.{no_clash, first_clash}
use Rattle.resh_model.proofs.bags.Reopened.{own_places, reopened}

module _ (chunks new_map : Chunks) (bag : Bag) (placed : IsPlaced chunks bag) (ds : List Document) (own : ds ≡ documents bag) (seats : List Seat) (seating : IsSeating chunks new_map ds seats) (sorted : IsSorted seat_cmp seats) where
  abbrev of_bag : IsSeating chunks new_map (documents bag) seats
  of_bag = subst (λ l. IsSeating chunks new_map l seats) own seating

  module _ (seen : List Seat) (same : seen ≡ seats) where
    pub none_ties : IsFirstTie seen None → HasNoClash new_map bag
    none_ties untied =
        subst (HasNoClash new_map) (reopened chunks bag placed)
        (no_clash chunks new_map (documents bag) (own_places chunks bag placed) seats of_bag sorted (subst (λ l. IsFirstTie l None) same untied))

    pub tie_clashes : (place : ℕ) (a : Seat) → TiesAt seen place → a ≡ get_or seats place a → (shard : ℕ) (id : Value) → shard ≡ a.shard.0 → id ≡ id_of a.document → IsFirstClash new_map bag shard id
    tie_clashes place a ties is shard id to under =
        let tie : TiesAt seats place = subst (λ l. TiesAt l place) same ties in
        let found : IsFirstClash new_map (opening_bag chunks (documents bag)) a.shard.0 (id_of a.document) =
        first_clash chunks new_map (documents bag) (own_places chunks bag placed) seats of_bag sorted place tie a (slice_get-get_or seats place a (omega (arith, tie.within)) ∙ ap Some (sym is)) in
        subst (λ s. IsFirstClash new_map bag s id) (sym to) (subst (IsFirstClash new_map bag a.shard.0) (sym under) (subst (λ b. IsFirstClash new_map b a.shard.0 (id_of a.document)) (reopened chunks bag placed) found))

-- neither is above the other
even : (r s : Ordering) → s ≡ ordering_reverse r → r ≢ Greater → s ≢ Greater → r ≡ Equal
even Less s e f g = absurd (g e)
even Equal s e f g = refl
even Greater s e f g = absurd (f refl)

module _ (new_map : Chunks) (bag : Bag) (shard other : ℕ) (id another : Value) (one : IsFirstClash new_map bag shard id) (two : IsFirstClash new_map bag other another) where
  pub one_first : (shard ≡ other) × (id ≡ another)
  one_first =
      let tied = even (clash_cmp (shard, id) (other, another)) (clash_cmp (other, another) (shard, id)) (clash_total.antisymm (other, another) (shard, id)) (one.first other another two.clash) (two.first shard id one.clash) in
      let same : (shard, id) ≡ (other, another) = exact_pairs nat_cmp compare_of nat_cmp-IsAntisymmetric compare_same (shard, id) (other, another) tied in
      (ap (λ p. p.0) same, ap (λ p. p.1) same)
