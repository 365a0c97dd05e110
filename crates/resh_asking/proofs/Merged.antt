-- What some shards show of their own documents, in order: the first ones are the first of the bag of them all, and their
-- numbers add up.
use Rattle.std.proofs.Common.{◌≡◌, ◌≢◌, ◌==◌, ◌<◌, ⊎_elim, ℕ, Bool, true, false, cond, List, [], ◌∷◌, length, map, filter, take, Some, None, refl, sym, ap, ◌∙◌, subst, arith, Less, Equal, Greater}
use Rattle.std.proofs.lemmas.Bool.{eqb-true}
use Rattle.std.proofs.lemmas.List.{take-map}
use Rattle.std.proofs.lemmas.List.Elements.{Contains-append_left, Contains-append_right, Contains-append_cases}
use Rattle.std.proofs.lemmas.List.Kept.{IsStrictlySortedBy-filter}
use Rattle.std.proofs.lemmas.List.Sorted.{Contains-permutation, IsPermutation-sym}
use Rattle.std.proofs.lemmas.Map.Keys.{IsDistinct-IsPermutation}
use Rattle.std.specs.FinMap.{entries, entries_sorted}
use Rattle.std.specs.List.{AllByRecursion, Contains, IsDistinct, flat_map}
use Rattle.std.specs.List.Sorted.{IsPermutation, IsSorted, IsStrictlySortedBy}
use Rattle.std.specs.Map.{keys_of, values_of}
use Rattle.std.specs.Ordering.{eq_by_cmp, is_eq, nat_cmp, ordering_reverse, ordering_then}
use Rattle.std.specs.declared.cmp.Ordering.{Ordering}
use Rattle.resh_value.specs.Lookup.{id_of}
use Rattle.resh_value.specs.Order.{compare_of}
use Rattle.resh_value.specs.OrderLaws.{compare_itself, compare_same}
use Rattle.resh_value.specs.declared.value.ShardId.{ShardId}
use Rattle.resh_value.specs.declared.value.Value.{Value}
use Rattle.resh_value.proofs.SortedLists.{strict_from_distinct}
use Rattle.resh_bag.specs.Bag.{Bag, Document, documents, held, place_cmp}
use Rattle.resh_bag.specs.Parts.{bag_over, is_among, of_id, total}
use Rattle.resh_bag.specs.PlaceOrder.{place_same, place_total}
use Rattle.resh_bag.proofs.bags.Entries.{entry_found, found_entry, keys_rise}
use Rattle.resh_bag.proofs.Lists.{distinct_map, first_or_later, first_there, kept, later_there, mapped, rising_map, rising_unmap, same_sorted, unmapped, was_there}
use Rattle.resh_bag.proofs.shards.ByShard.{held_over, same_number}
use Rattle.resh_router.specs.Merging.{documents_of, place, shown_cmp, shown_from, shown_total}
use Rattle.resh_router.proofs.Lists.{distinct_joined, first_rise, front, one_of}
use Rattle.resh_asking.proofs.Listed.{among_there, counts_add, filter_mapped, filters_commute, find_there, first_of_part, length_mapped, same_first, there_among, total_same}

-- what a function is of
abbrev domain : {A B : Type 0} → (A → B) → Type 0
domain {A} {B} f = A

-- a document that a shard shows
abbrev pub Shown : Type 0
Shown = domain place

some_same : {X : Type 0} (x y : X) → Some x ≡ Some y → x ≡ y
some_same x y e = cc

tied : (a b : Value) → is_eq (compare_of a b) ≡ true → a ≡ b
tied a b e = by (compare_of a b) refl e
  where
    by : (r : Ordering) → compare_of a b ≡ r → is_eq r ≡ true → a ≡ b
    by Less f h = cc
    by Equal f h = compare_same a b f
    by Greater f h = cc

abbrev pub Rises : List Document → Type 0
Rises ds = IsStrictlySortedBy compare_of (map id_of ds)

abbrev by_id : Document → Document → Ordering
by_id a b = compare_of (id_of a) (id_of b)

rise_by_id : (ds : List Document) → Rises ds → IsStrictlySortedBy (λ a b. compare_of (id_of a) (id_of b)) ds
rise_by_id ds s = rising_unmap id_of compare_of ds s

-- a document of a rising list is found under its own `_id`
of_own : (ds : List Document) → IsStrictlySortedBy (λ a b. compare_of (id_of a) (id_of b)) ds → (d : Document) → Contains ds d → of_id (id_of d) ds ≡ Some d
unfolding IsStrictlySortedBy
of_own [] s d (k, within, is) = absurd (omega (arith, within))
of_own (e ∷ es) s d there = ⊎_elim (λ same. here same) (λ later. behind later (of_own es s.1 d later)) (first_or_later e es d there)
  where
    here : e ≡ d → cond (is_eq (compare_of (id_of d) (id_of e))) (Some e) (of_id (id_of d) es) ≡ Some d
    here same = subst (λ x. cond (is_eq (compare_of (id_of d) (id_of x))) (Some x) (of_id (id_of d) es) ≡ Some d) (sym same) (ap (λ r. cond (is_eq r) (Some d) (of_id (id_of d) es)) (compare_itself (id_of d)))

    off : compare_of (id_of e) (id_of d) ≡ Less → (b : Bool) → is_eq (compare_of (id_of d) (id_of e)) ≡ b → b ≡ false
    off below true f = absurd (let same = tied (id_of d) (id_of e) f in let eq : Less ≡ Equal = sym below ∙ ap (compare_of (id_of e)) same ∙ compare_itself (id_of e) in cc)
    off below false f = refl

    behind : Contains es d → of_id (id_of d) es ≡ Some d → cond (is_eq (compare_of (id_of d) (id_of e))) (Some e) (of_id (id_of d) es) ≡ Some d
    behind later rest =
        ap (λ b. cond b (Some e) (of_id (id_of d) es)) (off (one_of (λ y. compare_of (id_of e) (id_of y) ≡ Less) es d s.0 later) (is_eq (compare_of (id_of d) (id_of e))) refl) ∙ rest

module _ (s : ℕ) where
  more : (e : Document) (es : List Document) → AllByRecursion (λ y. compare_of (id_of e) (id_of y) ≡ Less) es → AllByRecursion (λ y. place_cmp (id_of e, s) (id_of y, s) ≡ Less) es
  more e [] a = tt
  more e (y ∷ ys) a = (ap (λ r. ordering_then r (nat_cmp s s)) a.0, more e ys a.1)

  still : (es : List Document) → IsStrictlySortedBy (λ a b. compare_of (id_of a) (id_of b)) es → IsStrictlySortedBy (λ a b. place_cmp (id_of a, s) (id_of b, s)) es
  unfolding IsStrictlySortedBy
  still [] a = tt
  still (e ∷ es) a = (more e es a.0, still es a.1)

of_id_is : (id : Value) (ds : List Document) (d : Document) → of_id id ds ≡ Some d → Contains ds d × (id_of d ≡ id)
of_id_is id ds d e = let w = find_there (λ x. is_eq (compare_of id (id_of x))) ds d e in (w.0, sym (tied id (id_of d) w.1))

one_way : (x y : Shown) → shown_cmp x y ≡ Less → shown_cmp y x ≢ Less
one_way x y below above = let two : Less ≡ Greater = sym below ∙ shown_total.antisymm x y ∙ ap ordering_reverse above in cc

abbrev tie : Shown → Shown → Bool
tie a b = eq_by_cmp shown_cmp a b

turned : (r : Ordering) → is_eq (ordering_reverse r) ≡ is_eq r
turned Less = refl
turned Equal = refl
turned Greater = refl

ties_back : (x y : Shown) → eq_by_cmp shown_cmp x y ≡ eq_by_cmp shown_cmp y x
ties_back x y = ap is_eq (shown_total.antisymm x y) ∙ turned (shown_cmp y x)

-- two documents of different shards don't tie
apart_shards : (x y : Shown) → (x.shard.0 ≡ y.shard.0 → ⊥) → eq_by_cmp shown_cmp x y ≡ false
apart_shards x y apart = by (place_cmp (place x) (place y)) refl
  where
    by : (r : Ordering) → place_cmp (place x) (place y) ≡ r → is_eq (place_cmp (place x) (place y)) ≡ false
    by Less e = ap is_eq e
    by Greater e = ap is_eq e
    by Equal e = let same = place_same (place x) (place y) e in absurd (apart (λ i. (same i).1))

abbrev numbers : List ShardId → List ℕ
numbers shards = map (λ s. s.0) shards

abbrev label : (Value × ℕ) × Document → Shown
label e = shown_from (record { 0 = e.0.1 }) e.1

values_labelled : (p : Document → Bool) (es : List ((Value × ℕ) × Document)) → filter p (values_of es) ≡ documents_of (filter (λ (x : Shown). p x.document) (map label es))
values_labelled p [] = refl
values_labelled p (e ∷ es) = by (p e.1) (values_labelled p es)
  where
    by : (b : Bool) → filter p (values_of es) ≡ documents_of (filter (λ (x : Shown). p x.document) (map label es))
        → cond b (e.1 ∷ filter p (values_of es)) (filter p (values_of es)) ≡ documents_of (cond b (label e ∷ filter (λ (x : Shown). p x.document) (map label es)) (filter (λ (x : Shown). p x.document) (map label es)))
    by true rest = ap (λ l. e.1 ∷ l) rest
    by false rest = rest

keys_labelled : (es : List ((Value × ℕ) × Document)) → ((k : Value × ℕ) (d : Document) → Contains es (k, d) → id_of d ≡ k.0) → keys_of es ≡ map place (map label es)
keys_labelled [] each = refl
keys_labelled (e ∷ es) each = λ i. (sym (each e.0 e.1 (first_there e es)) i, e.0.1) ∷ keys_labelled es (λ k d there. each k d (later_there e es (k, d) there)) i

module _ (own : ℕ → List Document) (ns : List ℕ) (rise : (s : ℕ) → Contains ns s → Rises (own s)) where
  abbrev all : Bag
  all = bag_over own ns

  abbrev pub labelled : List Shown
  labelled = map label (entries (bag_over own ns))

  entry_is : (k : Value × ℕ) (d : Document) → Contains (entries (bag_over own ns)) (k, d) → Contains ns k.1 × Contains (own k.1) d × (id_of d ≡ k.0)
  unfolding held
  entry_is k d there = by (is_among ns k.1) refl
    where
      is : held all k.1 k.0 ≡ Some d
      is = entry_found place_total place_same all k d there

      by : (b : Bool) → is_among ns k.1 ≡ b → Contains ns k.1 × Contains (own k.1) d × (id_of d ≡ k.0)
      by true e =
          let found : of_id k.0 (own k.1) ≡ Some d = sym (ap (λ b. cond b (of_id k.0 (own k.1)) None) e) ∙ sym (held_over own ns k.1 k.0) ∙ is in
          let w = of_id_is k.0 (own k.1) d found in (among_there ns k.1 e, w.0, w.1)
      by false e = absurd (let none : None ≡ Some d = sym (ap (λ b. cond b (of_id k.0 (own k.1)) None) e) ∙ sym (held_over own ns k.1 k.0) ∙ is in cc)

  was_labelled : (x : Shown) → Contains (map label (entries (bag_over own ns))) x → Contains ns x.shard.0 × Contains (own x.shard.0) x.document
  was_labelled x there =
      let w = unmapped label (entries all) x there in
      let h = entry_is w.0.0 w.0.1 w.1 in
      subst (λ (z : Shown). Contains ns z.shard.0 × Contains (own z.shard.0) z.document) w.2 (h.0, h.1)

  is_labelled : (s : ℕ) (d : Document) → Contains ns s → Contains (own s) d → Contains (map label (entries (bag_over own ns))) (shown_from (record { 0 = s }) d)
  unfolding held
  is_labelled s d among there =
      let is : held all s (id_of d) ≡ Some d = held_over own ns s (id_of d) ∙ ap (λ b. cond b (of_id (id_of d) (own s)) None) (there_among ns s among) ∙ of_own (own s) (rise_by_id (own s) (rise s among)) d there in
      mapped label (entries all) ((id_of d, s), d) (found_entry place_total place_same all (id_of d, s) d is)

  labelled_rise : IsStrictlySortedBy shown_cmp (map label (entries (bag_over own ns)))
  labelled_rise =
      rising_unmap place place_cmp (map label (entries all))
      (subst (IsStrictlySortedBy place_cmp) (keys_labelled (entries all) (λ k d there. (entry_is k d there).2)) (keys_rise place_cmp (entries all) (entries_sorted all)))

  -- what a shard has of it
  one_labelled : (s : ℕ) → Contains ns s → filter (λ (x : Shown). x.shard.0 == s) (map label (entries (bag_over own ns))) ≡ map (shown_from (record { 0 = s })) (own s)
  one_labelled s among =
      same_sorted shown_cmp one_way (filter (λ (x : Shown). x.shard.0 == s) (map label (entries all))) (map (shown_from (record { 0 = s })) (own s))
      (IsStrictlySortedBy-filter shown_cmp (λ (x : Shown). x.shard.0 == s) (map label (entries all)) labelled_rise)
      (rising_map (shown_from (record { 0 = s })) shown_cmp (own s) (still s (own s) (rise_by_id (own s) (rise s among))))
      (λ x there.
      let a = was_there (λ (y : Shown). y.shard.0 == s) (map label (entries all)) x there in
      let w = was_labelled x a.0 in
      let same = eqb-true x.shard.0 s a.1 in
      subst (λ (z : Shown). Contains (map (shown_from (record { 0 = s })) (own s)) z) (λ i. shown_from (record { 0 = sym same i }) x.document)
      (mapped (shown_from (record { 0 = s })) (own s) x.document (subst (λ n. Contains (own n) x.document) same w.1)))
      (λ x there.
      let w = unmapped (shown_from (record { 0 = s })) (own s) x there in
      subst (Contains (filter (λ (y : Shown). y.shard.0 == s) (map label (entries all)))) w.2
      (kept (λ (y : Shown). y.shard.0 == s) (map label (entries all)) (shown_from (record { 0 = s }) w.0) (is_labelled s w.0 among w.1) (same_number s)))

  module _ (p : Document → Bool) where
    abbrev passing : List Shown
    passing = filter (λ (x : Shown). p x.document) (map label (entries (bag_over own ns)))

    pub documents_passing : filter p (documents (bag_over own ns)) ≡ documents_of (filter (λ (x : Shown). p x.document) (map label (entries (bag_over own ns))))
    unfolding documents
    documents_passing = values_labelled p (entries all)

    one_passing : (s : ℕ) → Contains ns s → filter (λ (x : Shown). p x.document) (filter (λ (x : Shown). x.shard.0 == s) (map label (entries (bag_over own ns)))) ≡ map (shown_from (record { 0 = s })) (filter p (own s))
    one_passing s among = ap (filter (λ (x : Shown). p x.document)) (one_labelled s among) ∙ filter_mapped (λ (x : Shown). p x.document) (shown_from (record { 0 = s })) (own s)

    -- the first ones of each shard, as they are shown
    abbrev tops : ℕ → List Document
    tops s = take 10 (filter p (own s))

    abbrev shown_of : ShardId → List Shown
    shown_of s = map (shown_from s) (take 10 (filter p (own s.0)))

    abbrev pub shown_all : List ShardId → List Shown
    shown_all shards = flat_map (λ s. map (shown_from s) (take 10 (filter p (own s.0)))) shards

    was_shown : (shards : List ShardId) (x : Shown) → Contains (shown_all shards) x → Contains (numbers shards) x.shard.0 × Contains (tops x.shard.0) x.document
    was_shown [] x (n, within, is) = absurd (omega arith)
    was_shown (s ∷ ss) x there =
        ⊎_elim
        (λ here. let w = unmapped (shown_from s) (tops s.0) x here in
        subst (λ z. Contains (s.0 ∷ numbers ss) z.shard.0 × Contains (tops z.shard.0) z.document) w.2 (first_there s.0 (numbers ss), w.1))
        (λ later. let w = was_shown ss x later in (later_there s.0 (numbers ss) x.shard.0 w.0, w.1))
        (Contains-append_cases (shown_of s) (shown_all ss) x there)

    is_shown : (shards : List ShardId) (n : ℕ) (d : Document) → Contains (numbers shards) n → Contains (tops n) d → Contains (shown_all shards) (shown_from (record { 0 = n }) d)
    is_shown [] n d (k, within, is) there = absurd (omega arith)
    is_shown (s ∷ ss) n d among there =
        ⊎_elim
        (λ same. Contains-append_left (shown_of s) (shown_all ss) (shown_from (record { 0 = n }) d)
        (subst (λ k. Contains (shown_of s) (shown_from (record { 0 = k }) d)) same (mapped (shown_from s) (tops s.0) d (subst (λ k. Contains (tops k) d) (sym same) there))))
        (λ later. Contains-append_right (shown_of s) (shown_all ss) (shown_from (record { 0 = n }) d) (is_shown ss n d later there))
        (first_or_later s.0 (numbers ss) n among)

    tops_rise : (s : ℕ) → Contains ns s → IsStrictlySortedBy (λ a b. compare_of (id_of a) (id_of b)) (take 10 (filter p (own s)))
    tops_rise s among = first_rise by_id 10 (filter p (own s)) (IsStrictlySortedBy-filter by_id p (own s) (rise_by_id (own s) (rise s among)))

    one_distinct : (s : ShardId) → Contains ns s.0 → IsDistinct (eq_by_cmp shown_cmp) (map (shown_from s) (take 10 (filter p (own s.0))))
    one_distinct s among =
        distinct_map (shown_from s) tie by_id (tops s.0) (λ x y here there below. ap (λ r. is_eq (ordering_then r (nat_cmp s.0 s.0))) below) (tops_rise s.0 among)

    all_distinct : (shards : List ShardId) → ((s : ℕ) → Contains (numbers shards) s → Contains ns s) → IsDistinct (λ a b. a == b) (numbers shards) → IsDistinct (eq_by_cmp shown_cmp) (shown_all shards)
    unfolding IsDistinct
    all_distinct [] known distinct = tt
    all_distinct (s ∷ ss) known distinct =
        distinct_joined tie (shown_of s) (shown_all ss) (one_distinct s (known s.0 (first_there s.0 (numbers ss)))) (all_distinct ss (λ n there. known n (later_there s.0 (numbers ss) n there)) distinct.1)
        (λ x y here there.
        let w = unmapped (shown_from s) (tops s.0) x here in
        let other = one_of (λ n. (s.0 == n) ≡ false) (numbers ss) y.shard.0 distinct.0 (was_shown ss y there).0 in
        apart_shards x y (λ same. let off : (s.0 == y.shard.0) ≡ true = same_as s.0 y.shard.0 ((λ i. (w.2 i).shard.0) ∙ same) in cc))
      where
        same_as : (a b : ℕ) → a ≡ b → (a == b) ≡ true
        same_as a b e = subst (λ n. (a == n) ≡ true) e (same_number a)

    module _ (shards : List ShardId) (are : numbers shards ≡ ns) (distinct : IsDistinct (λ a b. a == b) ns) (ordered : List Shown) (same : IsPermutation (shown_all shards) ordered) (sorted : IsSorted shown_cmp ordered) where
      known : (s : ℕ) → Contains (numbers shards) s → Contains ns s
      known s there = subst (λ l. Contains l s) are there

      strict : IsStrictlySortedBy shown_cmp ordered
      strict =
          strict_from_distinct shown_total ordered sorted
          (IsDistinct-IsPermutation (eq_by_cmp shown_cmp) ties_back (shown_all shards) ordered same (all_distinct shards known (subst (IsDistinct (λ a b. a == b)) (sym are) distinct)))

      few : (x : Shown) → Contains ordered x → Contains (filter (λ (y : Shown). p y.document) (map label (entries (bag_over own ns)))) x
      few x there =
          let w = was_shown shards x (Contains-permutation ordered (shown_all shards) x (IsPermutation-sym (shown_all shards) ordered same) there) in
          let d = was_there p (own x.shard.0) x.document (front 10 (filter p (own x.shard.0)) x.document w.1) in
          kept (λ (y : Shown). p y.document) labelled x (is_labelled x.shard.0 x.document (known x.shard.0 w.0) d.0) d.1

      firsts : (x : Shown) → Contains (take 10 (filter (λ (y : Shown). p y.document) (map label (entries (bag_over own ns))))) x → Contains ordered x
      firsts x there =
          let a = was_there (λ (y : Shown). p y.document) labelled x (front 10 passing x there) in
          let w = was_labelled x a.0 in
          let mine = first_of_part (λ (y : Shown). y.shard.0 == x.shard.0) x (same_number x.shard.0) 10 passing there in
          let these = subst (λ l. Contains (take 10 l) x) (filters_commute (λ (y : Shown). y.shard.0 == x.shard.0) (λ (y : Shown). p y.document) labelled ∙ one_passing x.shard.0 w.0) mine in
          let u = unmapped (shown_from x.shard) (tops x.shard.0) x (subst (λ l. Contains l x) (take-map (shown_from x.shard) 10 (filter p (own x.shard.0))) these) in
          let shown = is_shown shards x.shard.0 u.0 (subst (λ l. Contains l x.shard.0) (sym are) w.0) u.1 in
          Contains-permutation (shown_all shards) ordered x same (subst (Contains (shown_all shards)) u.2 shown)

      passing_rise : IsStrictlySortedBy shown_cmp (filter (λ (y : Shown). p y.document) (map label (entries (bag_over own ns))))
      passing_rise = IsStrictlySortedBy-filter shown_cmp (λ (y : Shown). p y.document) labelled labelled_rise

      pub first_are : (first : List Document) → first ≡ documents_of (take 10 ordered) → first ≡ take 10 (filter p (documents (bag_over own ns)))
      first_are first is =
          is ∙ ap documents_of (same_first shown_cmp one_way 10 passing ordered passing_rise strict few firsts)
          ∙ sym (take-map (λ (x : Shown). x.document) 10 passing) ∙ ap (take 10) (sym documents_passing)

  -- the numbers of the first so many shards add up
  module _ (p : Document → Bool) (n : ℕ) (each : (s : ℕ) → Contains ns s → s < n) (whole : (s : ℕ) → s < n → Contains ns s) where
    below : (xs : List Shown) → ((x : Shown) → Contains xs x → x.shard.0 < n) → AllByRecursion (λ (x : Shown). x.shard.0 < n) xs
    below [] each_one = tt
    below (x ∷ xs) each_one = (each_one x (first_there x xs), below xs (λ y there. each_one y (later_there x xs y there)))

    pub counts_are : length (filter p (documents (bag_over own ns))) ≡ total (λ s. length (filter p (own s))) n
    counts_are =
        ap length (documents_passing p)
        ∙ length_mapped (λ (x : Shown). x.document) (filter (λ (x : Shown). p x.document) labelled)
        ∙ counts_add (λ (x : Shown). x.shard.0) (λ (x : Shown). p x.document) n labelled (below labelled (λ x there. each x.shard.0 (was_labelled x there).0))
        ∙ total_same (λ s. length (filter (λ (x : Shown). p x.document) (filter (λ (x : Shown). x.shard.0 == s) labelled))) (λ s. length (filter p (own s))) n
        (λ s lt. ap length (one_passing p s (whole s lt)) ∙ length_mapped (shown_from (record { 0 = s })) (filter p (own s)))
