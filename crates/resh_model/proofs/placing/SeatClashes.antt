-- Neighbours of one target are clashes, and the first of them is the first clash.
use Rattle.std.proofs.Common.{◌≡◌, ◌≢◌, ℕ, ◌+◌, ◌<◌, ◌≤◌, Bool, true, false, List, length, get_or, ltb, Some, refl, sym, ap, subst, ◌∙◌, ◌⊎◌, inl, inr, arith}
use Rattle.std.proofs.lemmas.Bool.{ltb-true}
use Rattle.std.proofs.lemmas.Bool.Decides.{nat_tests}
use Rattle.std.proofs.lemmas.List.{get_or_default}
use Rattle.std.proofs.lemmas.List.Elements.{All-contains}
use Rattle.std.proofs.lemmas.List.Sorted.{sorted_far, ranks_by}
use Rattle.std.proofs.lemmas.Map.Keys.{apart_from_distinct}
use Rattle.std.proofs.lemmas.Map.Lookups.{exact_pairs}
use Rattle.std.proofs.lemmas.Option.{get_or_from_slice_get, slice_get-get_or}
use Rattle.std.specs.Cmp.{nat_cmp_total, tied_itself}
use Rattle.std.specs.FinMap.{nat_cmp-IsAntisymmetric}
use Rattle.std.specs.List.{AllAdjacentBelow, Contains, slice_get}
use Rattle.std.specs.List.Sorted.{IsSorted}
use Rattle.std.specs.Ordering.{eq_by_cmp, is_eq, is_lt, nat_cmp, ordering_then, ordering_reverse}
use Rattle.std.specs.declared.cmp.Ordering.{Ordering}
use Rattle.std.specs.declared.cmp.Ordering.TheVariants.{Less, Equal, Greater}
use Rattle.resh_value.specs.Order.{compare_of}
use Rattle.resh_value.specs.OrderLaws.{compare_same}
use Rattle.resh_value.specs.declared.value.Value.{Value}
use Rattle.resh_chunks.specs.Chunks.{Chunks, owner_of}
use Rattle.resh_value.specs.Lookup.{id_of}
use Rattle.resh_bag.specs.Bag.{Bag, Document, held, opening_bag, HasDistinctPlaces, IsPlaced}
use Rattle.resh_bag.specs.Placement.{clash_cmp, IsClash, HasNoClash, IsFirstClash}
use Rattle.resh_bag.proofs.Lists.{mapped, unmapped}
use Rattle.resh_bag.proofs.bags.Opening.{opens_placed}
use Rattle.resh_bag.proofs.shards.Parting.{held_document, document_held}
use Rattle.resh_model.specs.Seats.{target, target_cmp, clash_total, target_total, seat_cmp, seat_total, same_target, IsSeated, IsSeating, TiesAt}
use Rattle.resh_model.specs.declared.seat.Seat.{Seat}
use Rattle.resh_model.proofs.placing.Seating.{seat_in_bag, bag_in_seat, seats_differ}
use Rattle.resh_value.proofs.SortedLists.{NoneBelow, tied_neighbours}

-- seats of one target and different shards of origin, at two places in order
record Twins (seats : List Seat) (shard : ℕ) (id : Value) : Type 0 where
  seat : Seat
  one : ℕ
  other : ℕ
  rises : one < other
  within : other < length seats
  first : (d : Seat) → target (get_or seats one d) ≡ (shard, id)
  second : (d : Seat) → target (get_or seats other d) ≡ (shard, id)

coarse : (r s : Ordering) → is_lt (ordering_then r s) ≡ false → is_lt r ≡ false
coarse Less s e = e
coarse Equal s e = refl
coarse Greater s e = refl

not_greater : (r s : Ordering) → r ≡ ordering_reverse s → is_lt s ≡ false → r ≢ Greater
not_greater r Less e f g = cc
not_greater r Equal e f g = cc
not_greater r Greater e f g = cc

both_tie : (r s : Ordering) → is_eq r ≡ true → s ≡ Equal → is_eq (ordering_then r s) ≡ true
both_tie Equal s e f = ap is_eq f
both_tie Less s e f = cc
both_tie Greater s e f = cc

is_equal : (r : Ordering) → is_eq r ≡ true → r ≡ Equal
is_equal Equal e = refl
is_equal Less e = cc
is_equal Greater e = cc

same_pair : (a b : ℕ × Value) → clash_cmp a b ≡ Equal → a ≡ b
same_pair = exact_pairs nat_cmp compare_of nat_cmp-IsAntisymmetric compare_same

sorted_targets : (seats : List Seat) → IsSorted seat_cmp seats → NoneBelow target_cmp seats
sorted_targets seats sorted i j d h within =
    coarse (target_cmp (get_or seats j d) (get_or seats i d)) (nat_cmp (get_or seats j d).from.0 (get_or seats i d).from.0)
    (sorted_far (λ a b. is_lt (seat_cmp a b)) (ranks_by seat_total (λ s. s)) seats sorted i j d h within)

-- twins have a neighbour pair of their target
twins_tie : (seats : List Seat) → IsSorted seat_cmp seats → (shard : ℕ) (id : Value) (t : Twins seats shard id) (d : Seat) → same_target (get_or seats t.one d) (get_or seats (t.one + 1) d) ≡ true
twins_tie seats sorted shard id t d =
    ap is_eq (tied_neighbours target_total seats (sorted_targets seats sorted) t.one t.other d t.rises t.within
    ((λ i. clash_cmp (t.first d i) (t.second d i)) ∙ tied_itself clash_total (shard, id)))

in_order : (m n : ℕ) → (m < n) ⊎ ((m ≡ n) ⊎ (n < m))
in_order m n = by (ltb m n) refl (ltb n m) refl
  where
    by : (a : Bool) → ltb m n ≡ a → (b : Bool) → ltb n m ≡ b → (m < n) ⊎ ((m ≡ n) ⊎ (n < m))
    by true e b f = inl (ltb-true m n e)
    by false e true f = inr (inr (ltb-true n m f))
    by false e false f = inr (inl (grind (arith, nat_tests)))

not_below : (m n : ℕ) → ltb m n ≡ false → n ≤ m
not_below m n e = grind (arith, nat_tests)

more : (m n : ℕ) → m < n → m + 1 < n + 1
more m n h = omega arith

earlier : {n : ℕ} (i j : ℕ) → i < j → j < n → i < n
earlier i j h k = omega arith

different : {b : Bool} → b ≡ true → b ≡ false → ⊥
different e f = cc

module _ (from_map to_map : Chunks) (ds : List Document) (distinct : HasDistinctPlaces from_map ds) (seats : List Seat) (seating : IsSeating from_map to_map ds seats) (sorted : IsSorted seat_cmp seats) where
  abbrev bag : Bag
  bag = opening_bag from_map ds

  placed : IsPlaced from_map bag
  placed = opens_placed.placed from_map ds

  -- the seat of a document of the bag
  record SeatOf (shard : ℕ) (id : Value) (from : ℕ) : Type 0 where
    seat : Seat
    at : ℕ
    within : at < length seats
    aims : (d : Seat) → target (get_or seats at d) ≡ (shard, id)
    comes : (d : Seat) → (get_or seats at d).from.0 ≡ from

  seat_of : (shard : ℕ) (id : Value) (from : ℕ) (document : Document) → held bag from id ≡ Some document → owner_of to_map document ≡ shard → SeatOf shard id from
  seat_of shard id from document is goes =
      let w = unmapped (λ (s : Seat). s.document) seats document (bag_in_seat from_map to_map ds distinct seats seating sorted document (held_document bag from id document is)) in
      let s = All-contains (IsSeated from_map to_map) seats w.0 seating.seated w.1 in
      let it = λ (d : Seat). get_or_default seats w.1.0 d w.0 w.1.1 ∙ w.1.2 in
      record {
        seat = w.0;
        at = w.1.0;
        within = w.1.1;
        aims = λ d. ap target (it d) ∙ (λ i. (((s.goes ∙ ap (owner_of to_map) w.2) ∙ goes) i, (ap id_of w.2 ∙ placed.by_id from id document is) i));
        comes = λ d. ap (λ (a : Seat). a.from.0) (it d) ∙ s.comes ∙ ap (owner_of from_map) w.2 ∙ placed.by_owner from id document is;
      }

  clash_twins : (shard : ℕ) (id : Value) → IsClash to_map bag shard id → Twins seats shard id
  clash_twins shard id c =
      by (seat_of shard id c.here c.one c.one_held c.one_comes) (seat_of shard id c.there c.other c.other_held c.other_comes)
    where
      in_turn : (a : SeatOf shard id c.here) (b : SeatOf shard id c.there) → (a.at < b.at) ⊎ ((a.at ≡ b.at) ⊎ (b.at < a.at)) → Twins seats shard id
      in_turn a b (inl before) = record { seat = a.seat; one = a.at; other = b.at; rises = before; within = b.within; first = a.aims; second = b.aims }
      in_turn a b (inr (inl same)) = absurd (c.apart (sym (a.comes a.seat) ∙ ap (λ n. (get_or seats n a.seat).from.0) same ∙ b.comes a.seat))
      in_turn a b (inr (inr behind)) = record { seat = a.seat; one = b.at; other = a.at; rises = behind; within = a.within; first = b.aims; second = a.aims }

      by : SeatOf shard id c.here → SeatOf shard id c.there → Twins seats shard id
      by a b = in_turn a b (in_order a.at b.at)

  -- where no neighbours have one target, no clash stands
  pub no_clash : AllAdjacentBelow (λ a b. same_target a b ≡ false) seats (length seats) → HasNoClash to_map bag
  no_clash untied shard id c =
      let t = clash_twins shard id c in
      let tie = twins_tie seats sorted shard id t t.seat in
      let bound : t.one + 1 < length seats = step t.one t.other t.rises t.within in
      let none = untied t.one t.seat bound in
      cc
    where
      step : (m n : ℕ) → m < n → n < length seats → m + 1 < length seats
      step m n h k = omega arith

  seat_held : (a : Seat) → Contains seats a → held bag a.from.0 (id_of a.document) ≡ Some a.document
  seat_held a there =
      let s = All-contains (IsSeated from_map to_map) seats a seating.seated there in
      subst (λ n. held bag n (id_of a.document) ≡ Some a.document) (sym s.comes)
      (document_held from_map bag placed a.document (seat_in_bag from_map to_map ds distinct seats seating sorted a.document (mapped (λ (s : Seat). s.document) seats a there)))

  module _ (place : ℕ) (ties : TiesAt seats place) (a : Seat) (is : slice_get seats place ≡ Some a) where
    abbrev b : Seat
    b = get_or seats (place + 1) a

    here : get_or seats place a ≡ a
    here = get_or_from_slice_get seats place a a is

    a_there : Contains seats a
    a_there = (place, earlier place (place + 1) (omega arith) ties.within, here)

    b_there : Contains seats b
    b_there = (place + 1, ties.within, get_or_default seats (place + 1) b a ties.within)

    one_target : target a ≡ target b
    one_target = same_pair (target a) (target b) (is_equal _ (ties.tied a b is (slice_get-get_or seats (place + 1) a ties.within)))

    from_others : a.from.0 ≢ b.from.0
    from_others same =
        let tied : eq_by_cmp seat_cmp a b ≡ true = both_tie (target_cmp a b) (nat_cmp a.from.0 b.from.0) (ties.tied a b is (slice_get-get_or seats (place + 1) a ties.within)) (ap (λ n. nat_cmp n b.from.0) same ∙ tied_itself nat_cmp_total b.from.0) in
        let apart : eq_by_cmp seat_cmp a b ≡ false = ap (λ s. eq_by_cmp seat_cmp s b) (sym here) ∙ apart_from_distinct (eq_by_cmp seat_cmp) seats place (place + 1) a (seats_differ from_map to_map ds distinct seats seating sorted) (omega arith) ties.within in
        cc

    clash : IsClash to_map bag a.shard.0 (id_of a.document)
    clash = record {
      here = a.from.0;
      there = b.from.0;
      apart = from_others;
      one = a.document;
      other = b.document;
      one_held = seat_held a a_there;
      other_held = subst (λ id. held bag b.from.0 id ≡ Some b.document) (sym (ap (λ t. t.1) one_target)) (seat_held b b_there);
      one_comes = sym (All-contains (IsSeated from_map to_map) seats a seating.seated a_there).goes;
      other_comes = sym (All-contains (IsSeated from_map to_map) seats b seating.seated b_there).goes ∙ sym (ap (λ t. t.0) one_target);
    }

    -- the first neighbours of one target are the first clash
    pub first_clash : IsFirstClash to_map bag a.shard.0 (id_of a.document)
    first_clash = record { clash = clash; first = first }
      where
        later : (shard : ℕ) (id : Value) (t : Twins seats shard id) → place ≤ t.one
        later shard id t = by (ltb t.one place) refl
          where
            by : (b : Bool) → ltb t.one place ≡ b → place ≤ t.one
            by true e =
                let below : t.one + 1 < place + 1 = more t.one place (ltb-true t.one place e) in
                let tie = twins_tie seats sorted shard id t a in
                let none = ties.untied t.one a below in
                absurd (different tie none)
            by false e = not_below t.one place e

        first : (s : ℕ) (i : Value) → IsClash to_map bag s i → clash_cmp (a.shard.0, id_of a.document) (s, i) ≢ Greater
        first s i c =
            let t = clash_twins s i c in
            let none = sorted_targets seats sorted place t.one a (later s i t) (earlier t.one t.other t.rises t.within) in
            not_greater _ (target_cmp (get_or seats t.one a) (get_or seats place a))
            (clash_total.antisymm (target a) (s, i) ∙ (λ j. ordering_reverse (clash_cmp (sym (t.first a) j) (target (sym here j))))) none
