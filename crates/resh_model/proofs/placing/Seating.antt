-- The seats of one shard, in order, are its part of the bag.
use Rattle.std.proofs.Common.{◌≡◌, ◌≢◌, ℕ, Bool, true, false, cond, List, [], ◌∷◌, filter, map, eqb, refl, sym, ap, subst, ◌∙◌}
use Rattle.std.proofs.lemmas.Bool.{eqb-true}
use Rattle.std.proofs.lemmas.List.Elements.{All-contains, All-map, All-weaker, recursion_from_All}
use Rattle.std.proofs.lemmas.List.Kept.{IsStrictlySortedBy-filter}
use Rattle.std.proofs.lemmas.List.Sorted.{All-permutation, Contains-permutation, IsPermutation-map, IsPermutation-sym, IsPermutation-trans}
use Rattle.std.proofs.lemmas.Map.Keys.{IsDistinct-IsPermutation}
use Rattle.std.specs.Cmp.{eq_by_cmp_equiv, nat_cmp_total, tied_itself}
use Rattle.std.specs.List.{AllByRecursion, Contains, IsDistinct, range_with_len}
use Rattle.std.specs.List.Sorted.{IsPermutation, IsSorted, IsStrictlySortedBy}
use Rattle.std.specs.Ordering.{eq_by_cmp, is_eq, nat_cmp, ordering_then, ordering_reverse}
use Rattle.std.specs.declared.cmp.Ordering.{Ordering}
use Rattle.std.specs.declared.cmp.Ordering.TheVariants.{Less, Equal, Greater}
use Rattle.resh_value.specs.Order.{compare_of}
use Rattle.resh_value.specs.declared.value.Value.{Value}
use Rattle.resh_chunks.specs.Chunks.{Chunks, owner_of}
use Rattle.resh_value.specs.Lookup.{id_of}
use Rattle.resh_bag.specs.Bag.{Bag, Document, place_cmp, place_of, documents, opening_bag, HasDistinctPlaces}
use Rattle.resh_bag.specs.PlaceOrder.{place_total}
use Rattle.resh_bag.specs.Placement.{part, parts}
use Rattle.resh_bag.proofs.Lists.{kept, was_there, same_sorted, still_rising, rising_map}
use Rattle.resh_bag.proofs.bags.Opening.{opens_placed, opens_whole}
use Rattle.resh_bag.proofs.shards.Parting.{documents_rise}
use Rattle.resh_model.specs.Seats.{seat_cmp, seat_total, sent_back, handed_out, IsSeated, IsSeating}
use Rattle.resh_model.specs.declared.seat.Seat.{Seat}
use Rattle.resh_value.proofs.SortedLists.{strict_from_distinct}

-- what differs in its last two parts differs
parts_differ : (r s t : Ordering) → is_eq (ordering_then s t) ≡ false → is_eq (ordering_then (ordering_then r s) t) ≡ false
parts_differ Less s t e = refl
parts_differ Equal s t e = e
parts_differ Greater s t e = refl

-- where the first part ties, the last two decide
parts_decide : (r s t : Ordering) → r ≡ Equal → ordering_then (ordering_then r s) t ≡ Less → ordering_then s t ≡ Less
parts_decide Less s t e f = cc
parts_decide Equal s t e f = f
parts_decide Greater s t e f = cc

below_once : (a b : Value × ℕ) → place_cmp a b ≡ Less → place_cmp b a ≢ Less
below_once a b e f = let back : place_cmp a b ≡ Greater = place_total.antisymm a b ∙ ap ordering_reverse f in cc

module _ (from_map to_map : Chunks) where
  abbrev by_place : Document → Document → Ordering
  by_place a b = place_cmp (place_of from_map a) (place_of from_map b)

  apart_seats : (a b : Seat) → IsSeated from_map to_map a → IsSeated from_map to_map b → eq_by_cmp place_cmp (place_of from_map a.document) (place_of from_map b.document) ≡ false → eq_by_cmp seat_cmp a b ≡ false
  apart_seats a b s t e =
      parts_differ (nat_cmp a.shard.0 b.shard.0) (compare_of (id_of a.document) (id_of b.document)) (nat_cmp a.from.0 b.from.0)
      ((λ i. is_eq (ordering_then (compare_of (id_of a.document) (id_of b.document)) (nat_cmp (s.comes i) (t.comes i)))) ∙ e)

  apart_all : (a : Seat) (seats : List Seat) → IsSeated from_map to_map a → AllByRecursion (IsSeated from_map to_map) seats
      → AllByRecursion (λ q. eq_by_cmp place_cmp (place_of from_map a.document) q ≡ false) (map (place_of from_map) (map (λ s. s.document) seats)) → AllByRecursion (λ b. eq_by_cmp seat_cmp a b ≡ false) seats
  apart_all a [] s all apart = tt
  apart_all a (b ∷ seats) s all apart = (apart_seats a b s all.0 apart.0, apart_all a seats s all.1 apart.1)

  distinct_seats : (seats : List Seat) → AllByRecursion (IsSeated from_map to_map) seats → IsDistinct (eq_by_cmp place_cmp) (map (place_of from_map) (map (λ s. s.document) seats)) → IsDistinct (eq_by_cmp seat_cmp) seats
  unfolding IsDistinct
  distinct_seats [] all h = tt
  distinct_seats (a ∷ seats) all h = (apart_all a seats all.0 all.1 h.0, distinct_seats seats all.1 h.1)

  -- the documents of a shard's seats are those that the map gives to it
  seated_filter : (shard : ℕ) (seats : List Seat) → AllByRecursion (IsSeated from_map to_map) seats → map (λ s. s.document) (filter (λ s. eqb s.shard.0 shard) seats) ≡ filter (λ d. eqb (owner_of to_map d) shard) (map (λ s. s.document) seats)
  seated_filter shard [] all = refl
  seated_filter shard (a ∷ seats) all =
      by (eqb a.shard.0 shard) (seated_filter shard seats all.1) ∙ ap (λ n. cond (eqb n shard) (a.document ∷ filter (λ d. eqb (owner_of to_map d) shard) (map (λ s. s.document) seats)) (filter (λ d. eqb (owner_of to_map d) shard) (map (λ s. s.document) seats))) all.0.goes
    where
      by : (b : Bool) → map (λ s. s.document) (filter (λ s. eqb s.shard.0 shard) seats) ≡ filter (λ d. eqb (owner_of to_map d) shard) (map (λ s. s.document) seats)
          → map (λ s. s.document) (cond b (a ∷ filter (λ s. eqb s.shard.0 shard) seats) (filter (λ s. eqb s.shard.0 shard) seats))
          ≡ cond b (a.document ∷ filter (λ d. eqb (owner_of to_map d) shard) (map (λ s. s.document) seats)) (filter (λ d. eqb (owner_of to_map d) shard) (map (λ s. s.document) seats))
      by true rest = ap (λ l. a.document ∷ l) rest
      by false rest = rest

  module _ (ds : List Document) (distinct : HasDistinctPlaces from_map ds) (seats : List Seat) (seating : IsSeating from_map to_map ds seats) (sorted : IsSorted seat_cmp seats) where
    abbrev bag : Bag
    bag = opening_bag from_map ds

    all_seated : AllByRecursion (IsSeated from_map to_map) seats
    all_seated = recursion_from_All (IsSeated from_map to_map) seats seating.seated

    pub seats_differ : IsDistinct (eq_by_cmp seat_cmp) seats
    seats_differ =
        distinct_seats seats all_seated
        (IsDistinct-IsPermutation (eq_by_cmp place_cmp) ((eq_by_cmp_equiv place_total).symm) _ _ (IsPermutation-map (place_of from_map) _ _ seating.same) distinct)

    -- the documents of the seats are those of the bag
    pub seat_in_bag : (d : Document) → Contains (map (λ s. s.document) seats) d → Contains (documents bag) d
    seat_in_bag d there = Contains-permutation ds (documents bag) d (opens_whole.all from_map ds distinct) (Contains-permutation _ ds d (IsPermutation-sym _ _ seating.same) there)

    pub bag_in_seat : (d : Document) → Contains (documents bag) d → Contains (map (λ s. s.document) seats) d
    bag_in_seat d there = Contains-permutation ds _ d seating.same (Contains-permutation (documents bag) ds d (IsPermutation-sym _ _ (opens_whole.all from_map ds distinct)) there)

    shard_rises : (shard : ℕ) → IsStrictlySortedBy by_place (map (λ s. s.document) (filter (λ s. eqb s.shard.0 shard) seats))
    shard_rises shard =
        rising_map (λ (s : Seat). s.document) by_place (filter (λ s. eqb s.shard.0 shard) seats)
        (still_rising seat_cmp (λ a b. by_place a.document b.document) (filter (λ s. eqb s.shard.0 shard) seats) step
        (IsStrictlySortedBy-filter seat_cmp (λ s. eqb s.shard.0 shard) seats (strict_from_distinct seat_total seats sorted seats_differ)))
      where
        step : (a b : Seat) → Contains (filter (λ s. eqb s.shard.0 shard) seats) a → Contains (filter (λ s. eqb s.shard.0 shard) seats) b → seat_cmp a b ≡ Less → by_place a.document b.document ≡ Less
        step a b there here below =
            let one = was_there (λ (s : Seat). eqb s.shard.0 shard) seats a there in
            let other = was_there (λ (s : Seat). eqb s.shard.0 shard) seats b here in
            let s = All-contains (IsSeated from_map to_map) seats a seating.seated one.0 in
            let t = All-contains (IsSeated from_map to_map) seats b seating.seated other.0 in
            let tied : nat_cmp a.shard.0 b.shard.0 ≡ Equal = ap (λ n. nat_cmp n b.shard.0) (eqb-true _ _ one.1 ∙ sym (eqb-true _ _ other.1)) ∙ tied_itself nat_cmp_total b.shard.0 in
            (λ i. ordering_then (compare_of (id_of a.document) (id_of b.document)) (nat_cmp (sym s.comes i) (sym t.comes i)))
            ∙ parts_decide (nat_cmp a.shard.0 b.shard.0) (compare_of (id_of a.document) (id_of b.document)) (nat_cmp a.from.0 b.from.0) tied below

    shard_part : (shard : ℕ) → map (λ s. s.document) (filter (λ s. eqb s.shard.0 shard) seats) ≡ part to_map bag shard
    shard_part shard =
        same_sorted by_place (λ a b. below_once (place_of from_map a) (place_of from_map b)) _ (part to_map bag shard) (shard_rises shard)
        (IsStrictlySortedBy-filter by_place here (documents bag) (documents_rise from_map bag (opens_placed.placed from_map ds))) sub sup
      where
        here : Document → Bool
        here d = eqb (owner_of to_map d) shard

        sub : (d : Document) → Contains (map (λ s. s.document) (filter (λ s. eqb s.shard.0 shard) seats)) d → Contains (filter here (documents bag)) d
        sub d there =
            let w = was_there here (map (λ (s : Seat). s.document) seats) d (subst (λ l. Contains l d) (seated_filter shard seats all_seated) there) in
            kept here (documents bag) d (seat_in_bag d w.0) w.1

        sup : (d : Document) → Contains (filter here (documents bag)) d → Contains (map (λ s. s.document) (filter (λ s. eqb s.shard.0 shard) seats)) d
        sup d there =
            let w = was_there here (documents bag) d there in
            subst (λ l. Contains l d) (sym (seated_filter shard seats all_seated)) (kept here (map (λ (s : Seat). s.document) seats) d (bag_in_seat d w.0) w.1)

    -- what the shards are handed are the parts of the bag
    pub handed_parts : handed_out to_map.shards seats ≡ parts to_map bag
    handed_parts = λ i. map (λ shard. shard_part shard i) (range_with_len 0 to_map.shards)

  unchanged_documents : (seats : List Seat) → map (λ s. s.document) (map sent_back seats) ≡ map (λ s. s.document) seats
  unchanged_documents [] = refl
  unchanged_documents (a ∷ seats) = ap (λ l. a.document ∷ l) (unchanged_documents seats)

  -- seats that are sent back are seats by the map that they come from
  pub seated_back : (ds : List Document) (seats back : List Seat) → IsSeating from_map to_map ds seats → IsPermutation (map sent_back seats) back → IsSeating from_map from_map ds back
  seated_back ds seats back seating moved = record {
    seated = All-permutation (IsSeated from_map from_map) _ back moved
        (All-map (IsSeated from_map from_map) sent_back seats (All-weaker (IsSeated from_map to_map) (λ s. IsSeated from_map from_map (sent_back s)) (λ s h. record { goes = h.comes; comes = h.comes; known = h.was_known; was_known = h.was_known }) seats seating.seated));
    same = IsPermutation-trans ds _ _ seating.same
        (subst (λ l. IsPermutation l (map (λ s. s.document) back)) (unchanged_documents seats) (IsPermutation-map (λ (s : Seat). s.document) _ _ moved));
  }
