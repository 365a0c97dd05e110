-- The documents that shards show of their parts, in order: the first ones are the first of all.
use Rattle.std.proofs.Common.{◌≡◌, ◌==◌, ⊎_elim, ℕ, Bool, true, false, List, [], ◌∷◌, map, filter, take, refl, sym, ap, ◌∙◌, subst, arith, Less, Equal, Greater}
use Rattle.std.proofs.lemmas.Bool.{eqb-true}
use Rattle.std.proofs.lemmas.List.{take-map}
use Rattle.std.proofs.lemmas.List.Elements.{Contains-append_left, Contains-append_right, Contains-append_cases}
use Rattle.std.proofs.lemmas.List.Kept.{IsStrictlySortedBy-filter}
use Rattle.std.proofs.lemmas.List.Sorted.{Contains-permutation, IsPermutation-sym}
use Rattle.std.proofs.lemmas.Map.Keys.{IsDistinct-IsPermutation}
use Rattle.std.specs.List.{Contains, IsDistinct, flat_map}
use Rattle.std.specs.List.Sorted.{IsPermutation, IsSorted, IsStrictlySortedBy}
use Rattle.std.specs.Ordering.{eq_by_cmp, is_eq, ordering_reverse}
use Rattle.std.specs.declared.cmp.Ordering.{Ordering}
use Rattle.resh_value.specs.Lookup.{id_of}
use Rattle.resh_value.specs.declared.value.ShardId.{ShardId}
use Rattle.resh_value.proofs.SortedLists.{strict_from_distinct}
use Rattle.resh_chunks.specs.Chunks.{Chunks, owner_of}
use Rattle.resh_bag.specs.Bag.{Bag, Document, documents, place_cmp, place_of, IsPlaced}
use Rattle.resh_bag.specs.PartLaws.{IsMerged}
use Rattle.resh_bag.specs.PlaceOrder.{place_same}
use Rattle.resh_bag.specs.Placement.{part}
use Rattle.resh_bag.proofs.Lists.{distinct_map, first_or_later, first_there, later_there, mapped, rising_map, still_rising, unmapped, was_there}
use Rattle.resh_bag.proofs.shards.ByShard.{rises, same_number}
use Rattle.resh_bag.proofs.shards.Merged.{parts_merge}
use Rattle.resh_router.specs.Merging.{documents_of, place, shown_cmp, shown_from, shown_total}
use Rattle.resh_router.specs.declared.shown.Shown.{Shown}
use Rattle.resh_router.proofs.Lists.{distinct_joined, first_rise, front, one_of}

abbrev tie : Shown → Shown → Bool
tie a b = eq_by_cmp shown_cmp a b

turned : (r : Ordering) → is_eq (ordering_reverse r) ≡ is_eq r
turned Less = refl
turned Equal = refl
turned Greater = refl

ties_back : (x y : Shown) → eq_by_cmp shown_cmp x y ≡ eq_by_cmp shown_cmp y x
ties_back x y = ap is_eq (shown_total.antisymm x y) ∙ turned (shown_cmp y x)

-- two documents of different shards don't tie
apart_shards : (x y : Shown) → (x.shard.0 ≡ y.shard.0 → ⊥) → eq_by_cmp shown_cmp x y ≡ false
apart_shards x y apart = by (place_cmp (place x) (place y)) refl
  where
    by : (r : Ordering) → place_cmp (place x) (place y) ≡ r → is_eq (place_cmp (place x) (place y)) ≡ false
    by Less e = ap is_eq e
    by Greater e = ap is_eq e
    by Equal e = let same = place_same (place x) (place y) e in absurd (apart (λ i. (same i).1))

abbrev numbers : List ShardId → List ℕ
numbers shards = map (λ s. s.0) shards

module _ (chunks : Chunks) (bag : Bag) (placed : IsPlaced chunks bag) (p : Document → Bool) where
  abbrev mine : ℕ → List Document
  mine s = filter p (part chunks bag s)

  abbrev tops : ℕ → List Document
  tops s = take 10 (filter p (part chunks bag s))

  abbrev by_place : Document → Document → Ordering
  by_place a b = place_cmp (place_of chunks a) (place_of chunks b)

  abbrev shown_of : ShardId → List Shown
  shown_of s = map (shown_from s) (take 10 (filter p (part chunks bag s.0)))

  abbrev pub shown_all : List ShardId → List Shown
  shown_all shards = flat_map (λ s. map (shown_from s) (take 10 (filter p (part chunks bag s.0)))) shards

  mine_rise : (s : ℕ) → IsStrictlySortedBy (λ a b. place_cmp (place_of chunks a) (place_of chunks b)) (filter p (part chunks bag s))
  mine_rise s = IsStrictlySortedBy-filter by_place p (part chunks bag s) (rises chunks bag bag placed placed bag placed (λ d. owner_of chunks d == s))

  mine_are : (s : ℕ) (d : Document) → Contains (filter p (part chunks bag s)) d → (owner_of chunks d ≡ s) × (p d ≡ true)
  mine_are s d there =
      let a = was_there p (part chunks bag s) d there in
      let w = was_there (λ x. owner_of chunks x == s) (documents bag) d a.0 in
      (eqb-true (owner_of chunks d) s w.1, a.1)

  was_shown : (shards : List ShardId) (x : Shown) → Contains (shown_all shards) x → Contains (numbers shards) x.shard.0 × Contains (tops x.shard.0) x.document
  was_shown [] x (n, within, is) = absurd (omega arith)
  was_shown (s ∷ ss) x there =
      ⊎_elim
      (λ here. let w = unmapped (shown_from s) (tops s.0) x here in
      subst (λ z. Contains (s.0 ∷ numbers ss) z.shard.0 × Contains (tops z.shard.0) z.document) w.2 (first_there s.0 (numbers ss), w.1))
      (λ later. let w = was_shown ss x later in (later_there s.0 (numbers ss) x.shard.0 w.0, w.1))
      (Contains-append_cases (shown_of s) (shown_all ss) x there)

  is_shown : (shards : List ShardId) (n : ℕ) (d : Document) → Contains (numbers shards) n → Contains (tops n) d → (s : ShardId) × Contains (shown_all shards) (shown_from s d)
  is_shown [] n d (k, within, is) there = absurd (omega arith)
  is_shown (s ∷ ss) n d among there =
      ⊎_elim
      (λ same. (s, Contains-append_left (shown_of s) (shown_all ss) (shown_from s d) (mapped (shown_from s) (tops s.0) d (subst (λ k. Contains (tops k) d) (sym same) there))))
      (λ later. let w = is_shown ss n d later there in (w.0, Contains-append_right (shown_of s) (shown_all ss) (shown_from w.0 d) w.1))
      (first_or_later s.0 (numbers ss) n among)

  one_distinct : (s : ShardId) → IsDistinct (eq_by_cmp shown_cmp) (map (shown_from s) (take 10 (filter p (part chunks bag s.0))))
  one_distinct s =
      distinct_map (shown_from s) tie by_place (tops s.0)
      (λ x y here there below.
      let a = (mine_are s.0 x (front 10 (mine s.0) x here)).0 in
      let b = (mine_are s.0 y (front 10 (mine s.0) y there)).0 in
      ap is_eq ((λ i. place_cmp (id_of x, sym a i) (id_of y, sym b i)) ∙ below))
      (first_rise by_place 10 (mine s.0) (mine_rise s.0))

  all_distinct : (shards : List ShardId) → IsDistinct (λ a b. a == b) (numbers shards) → IsDistinct (eq_by_cmp shown_cmp) (shown_all shards)
  unfolding IsDistinct
  all_distinct [] distinct = tt
  all_distinct (s ∷ ss) distinct =
      distinct_joined tie (shown_of s) (shown_all ss) (one_distinct s) (all_distinct ss distinct.1)
      (λ x y here there.
      let w = unmapped (shown_from s) (tops s.0) x here in
      let other = one_of (λ n. (s.0 == n) ≡ false) (numbers ss) y.shard.0 distinct.0 (was_shown ss y there).0 in
      apart_shards x y (λ same. let off : (s.0 == y.shard.0) ≡ true = same_as s.0 y.shard.0 ((λ i. (w.2 i).shard.0) ∙ same) in cc))
    where
      same_as : (a b : ℕ) → a ≡ b → (a == b) ≡ true
      same_as a b e = subst (λ n. (a == n) ≡ true) e (same_number a)

  module _ (shards : List ShardId) (distinct : IsDistinct (λ a b. a == b) (numbers shards)) (covers : (d : Document) → p d ≡ true → Contains (numbers shards) (owner_of chunks d)) (ordered : List Shown)
      (same : IsPermutation (shown_all shards) ordered) (sorted : IsSorted shown_cmp ordered) where
    strict : IsStrictlySortedBy shown_cmp ordered
    strict = strict_from_distinct shown_total ordered sorted (IsDistinct-IsPermutation (eq_by_cmp shown_cmp) ties_back (shown_all shards) ordered same (all_distinct shards distinct))

    in_tops : (x : Shown) → Contains ordered x → Contains (tops x.shard.0) x.document
    in_tops x there = (was_shown shards x (Contains-permutation ordered (shown_all shards) x (IsPermutation-sym (shown_all shards) ordered same) there)).1

    at_place : (x : Shown) → Contains ordered x → place_of chunks x.document ≡ place x
    at_place x there = let owned = (mine_are x.shard.0 x.document (front 10 (mine x.shard.0) x.document (in_tops x there))).0 in λ i. (id_of x.document, owned i)

    merged : IsMerged chunks bag p 10 (documents_of ordered)
    merged = record {
      rises =
          rising_map (λ (x : Shown). x.document) by_place ordered
          (still_rising shown_cmp (λ (x y : Shown). by_place x.document y.document) ordered
          (λ x y here there below. (λ i. place_cmp (at_place x here i) (at_place y there i)) ∙ below) strict);
      only = λ d there.
          let w = unmapped (λ (x : Shown). x.document) ordered d there in
          (w.0.shard.0, subst (Contains (mine w.0.shard.0)) w.2 (front 10 (mine w.0.shard.0) w.0.document (in_tops w.0 w.1)));
      firsts = λ s d there.
          let are = mine_are s d (front 10 (mine s) d there) in
          let w = is_shown shards s d (subst (Contains (numbers shards)) are.0 (covers d are.1)) there in
          mapped (λ (x : Shown). x.document) ordered (shown_from w.0 d) (Contains-permutation (shown_all shards) ordered (shown_from w.0 d) same w.1);
    }

    pub first_are : (first : List Document) → first ≡ documents_of (take 10 ordered) → first ≡ take 10 (filter p (documents bag))
    first_are first is = is ∙ sym (take-map (λ (x : Shown). x.document) 10 ordered) ∙ parts_merge.finds chunks bag p 10 (documents_of ordered) placed merged
