-- What edits of entries in order make of the bag that they are.
use Rattle.std.proofs.Common.{◌≡◌, ℕ, ◌+◌, ◌<◌, ◌≤◌, suc, Bool, true, false, not, cond, T, List, [], ◌∷◌, ◌++◌, Option, Some, None, length, map, take, drop, get_or, slice_get, slice_set, insert, remove, refl, ap, sym, ◌∙◌, arith, subst}
use Rattle.std.proofs.lemmas.List.{map-set, map-append, take-map, drop-map, length-map}
use Rattle.std.proofs.lemmas.Option.{slice_get-map, slice_get-get_or, same_Some}
use Rattle.std.specs.Cmp.{eq_by_cmp_equiv}
use Rattle.std.specs.FinMap as finite
use Rattle.std.specs.FinMap.{find, from_sorted, entries-from_sorted, entries-insert, get-entries, get-empty, get-from_sorted, get-remove, same_entries_map, same_map}
use Rattle.std.specs.FinMap.Entries as sorting
use Rattle.std.specs.FinMap.Entries.{is_sorted}
use Rattle.std.specs.Option.{option_map}
use Rattle.std.specs.Ordering.{eq_by_cmp}
use Rattle.std.specs.declared.cmp.Ordering.TheVariants.{Less, Equal, Greater}
use Rattle.resh_value.specs.declared.value.Value.{Value}
use Rattle.resh_value.specs.Lookup.{id_of}
use Rattle.resh_bag.specs.Bag.{Bag, Document, place_cmp, held, put, without, documents}
use Rattle.resh_model.specs.Entries.{keyed, IsInOrder, gathered, StandsAt, GoesTo}
use Rattle.resh_bag.specs.PlaceOrder.{place_total, place_same}
use Rattle.resh_model.specs.declared.collection.Entry.{Entry}
use Rattle.resh_bag.proofs.bags.Entries.{keys_rise}
use Rattle.resh_model.proofs.bags.SortedEntries.{without_key, Found, Missed, IsBetween, found_at, missed_between, between_below, between_above}

abbrev Pairs : Type 0
Pairs = List ((Value × ℕ) × Document)

abbrev Sorted : Pairs → Type 0
Sorted ps = T (is_sorted place_cmp ps)

abbrev but : Value × ℕ → Value × ℕ → Bool
but k q = not (eq_by_cmp place_cmp k q)

-- the bag of pairs in order, edited
bag_put : (ps : Pairs) → Sorted ps → (k : Value × ℕ) (d : Document) → from_sorted (sorting.put place_cmp k d ps) ≡ finite.insert (from_sorted {R = place_cmp} ps) k d
bag_put ps s k d =
    same_entries_map _ _ (entries-from_sorted place_cmp _ (sorting.is_sorted-put place_cmp place_total k d ps s)
    ∙ sym (entries-insert place_total (from_sorted ps) k d ∙ ap (sorting.put place_cmp k d) (entries-from_sorted place_cmp ps s)))

turned : {A : Type 0} (b : Bool) (x y : A) → cond (not b) x y ≡ cond b y x
turned true x y = refl
turned false x y = refl

bag_without : (ps : Pairs) → Sorted ps → (k : Value × ℕ) → from_sorted (without_key place_cmp k ps) ≡ finite.remove (from_sorted {R = place_cmp} ps) k
bag_without ps s k = same_map place_total place_same _ _ (λ q.
    get-from_sorted place_cmp _ q (sorting.is_sorted-where_key place_cmp (but k) ps s)
    ∙ sorting.find-where_key place_cmp (but k) q (λ x t. ap (but k) (sym (place_same q x t))) ps
    ∙ turned (eq_by_cmp place_cmp k q) (find place_cmp q ps) None
    ∙ ap (λ b. cond b None (find place_cmp q ps)) ((eq_by_cmp_equiv place_total).symm k q)
    ∙ ap (cond (eq_by_cmp place_cmp q k) None) (sym (get-from_sorted place_cmp ps q s))
    ∙ sym (get-remove place_total (from_sorted ps) k q))

map_insert : {X Y : Type 0} (f : X → Y) (xs : List X) (i : ℕ) (x : X) → map f (insert xs i x) ≡ insert (map f xs) i (f x)
map_insert f xs i x = map-append f (take i xs) (x ∷ drop i xs) ∙ (λ j. sym (take-map f i xs) j ++ f x ∷ sym (drop-map f i xs) j)

map_remove : {X Y : Type 0} (f : X → Y) (xs : List X) (i : ℕ) → map f (remove xs i) ≡ remove (map f xs) i
map_remove f xs i = map-append f (take i xs) (drop (suc i) xs) ∙ (λ j. sym (take-map f i xs) j ++ sym (drop-map f (suc i) xs) j)

module _ (es : List Entry) (shard : ℕ) (id : Value) where
  abbrev pairs : Pairs
  pairs = map keyed es

  keyed_here : (e : Entry) → e.shard.0 ≡ shard → id_of e.document ≡ id → keyed e ≡ ((id, shard), e.document)
  keyed_here e s i = λ j. ((i j, s j), e.document)

  pair_at : (m : ℕ) (e : Entry) → m < length es → e ≡ get_or es m e → slice_get pairs m ≡ Some (keyed e)
  pair_at m e within is = slice_get-map keyed es m ∙ ap (option_map keyed) (slice_get-get_or es m e within ∙ ap Some (sym is))

  pub goes_below : (m : ℕ) (e : Entry) → m < length es → e ≡ get_or es m e → (low high : ℕ) → IsBetween place_cmp pairs (id, shard) low high → low ≤ m → m < high
      → place_cmp (id, shard) (id_of e.document, e.shard.0) ≡ Less → IsBetween place_cmp pairs (id, shard) low m
  goes_below m e within is = between_below place_cmp pairs (id, shard) m (keyed e) (pair_at m e within is)

  pub goes_above : (m : ℕ) (e : Entry) → m < length es → e ≡ get_or es m e → (low high : ℕ) → IsBetween place_cmp pairs (id, shard) low high → m < high
      → place_cmp (id, shard) (id_of e.document, e.shard.0) ≡ Greater → IsBetween place_cmp pairs (id, shard) (m + 1) high
  goes_above m e within is = between_above place_cmp pairs (id, shard) m (keyed e) (pair_at m e within is)

  module _ (sorted : IsInOrder es) where
    -- entries whose pairs are those of a put are the bag after the put, in order
    put_of : (new : List Entry) (e : Entry) → id_of e.document ≡ id → map keyed new ≡ sorting.put place_cmp (id, shard) e.document pairs → (gathered new ≡ put (gathered es) shard e.document) × IsInOrder new
    unfolding gathered put
    put_of new e i is = (
      ap from_sorted is ∙ bag_put pairs sorted (id, shard) e.document ∙ ap (λ k. finite.insert (from_sorted pairs) (k, shard) e.document) (sym i),
      subst Sorted (sym is) (sorting.is_sorted-put place_cmp place_total (id, shard) e.document pairs sorted),
    )

    without_of : (new : List Entry) → map keyed new ≡ without_key place_cmp (id, shard) pairs → (gathered new ≡ without (gathered es) shard id) × IsInOrder new
    unfolding gathered without
    without_of new is = (
      ap from_sorted is ∙ bag_without pairs sorted (id, shard),
      subst Sorted (sym is) (sorting.is_sorted-where_key place_cmp (but (id, shard)) pairs sorted),
    )

    held_of : (r : Option Document) → find place_cmp (id, shard) pairs ≡ r → held (gathered es) shard id ≡ r
    unfolding gathered held
    held_of r is = get-from_sorted place_cmp pairs (id, shard) sorted ∙ is

    pub stands_here : (m : ℕ) (e : Entry) → m < length es → e ≡ get_or es m e → place_cmp (id, shard) (id_of e.document, e.shard.0) ≡ Equal → StandsAt es shard id m
    stands_here m e within is tied =
        let at : slice_get es m ≡ Some e = slice_get-get_or es m e within ∙ ap Some (sym is) in
        let key : (id_of e.document, e.shard.0) ≡ (id, shard) = sym (place_same (id, shard) (id_of e.document, e.shard.0) tied) in
        let f : Found place_cmp (id, shard) e.document pairs m =
        found_at place_total (id, shard) e.document pairs m (keys_rise place_cmp pairs sorted) (pair_at m e within is ∙ ap (λ k. Some (k, e.document)) key) in
        let new = λ (x : Entry) (s : x.shard.0 ≡ shard) (i : id_of x.document ≡ id).
        put_of (slice_set es m x) x i (map-set keyed es m x ∙ ap (slice_set pairs m) (keyed_here x s i) ∙ f.replaced x.document) in
        let rest = without_of (remove es m) (map_remove keyed es m ∙ f.removed) in
        record {
          within = within;
          found = λ x p. held_of (Some x.document) (f.found ∙ ap (λ (y : Entry). Some y.document) (same_Some _ _ (sym at ∙ p)));
          named = λ x p. ap (λ (y : Entry). id_of y.document) (sym (same_Some _ _ (sym at ∙ p))) ∙ ap (λ k. k.0) key;
          replaced = λ x s i. (new x s i).0;
          rises = λ x s i. (new x s i).1;
          removed = rest.0;
          rest_rises = rest.1;
        }

    pub goes_between : (low high : ℕ) → IsBetween place_cmp pairs (id, shard) low high → high ≤ low → GoesTo es shard id low
    goes_between low high b le =
        let f : Missed place_cmp (id, shard) pairs low = missed_between place_total (id, shard) pairs low high (keys_rise place_cmp pairs sorted) b le in
        let new = λ (x : Entry) (s : x.shard.0 ≡ shard) (i : id_of x.document ≡ id).
        put_of (insert es low x) x i (map_insert keyed es low x ∙ ap (insert pairs low) (keyed_here x s i) ∙ f.inserted x.document) in
        record {
          within = subst (λ n. low ≤ n) (length-map es keyed) f.within;
          missing = held_of None f.missing;
          inserted = λ x s i. (new x s i).0;
          rises = λ x s i. (new x s i).1;
          kept = (without_of es f.kept).0;
        }

-- no entry makes the empty bag
pub gathered_none : gathered [] ≡ finite.empty
unfolding gathered
gathered_none = same_map place_total place_same _ _ (λ q. get-from_sorted place_cmp [] q tt ∙ sym (get-empty place_cmp q))

documents_of : (es : List Entry) → map (λ (p : (Value × ℕ) × Document). p.1) (map keyed es) ≡ map (λ (e : Entry). e.document) es
documents_of [] = refl
documents_of (e ∷ es) = ap (λ l. e.document ∷ l) (documents_of es)

-- the documents of the bag are those of the entries, in their order
pub gathered_documents : (es : List Entry) → IsInOrder es → documents (gathered es) ≡ map (λ (e : Entry). e.document) es
unfolding gathered documents
gathered_documents es sorted = ap (map (λ (p : (Value × ℕ) × Document). p.1)) (entries-from_sorted place_cmp (map keyed es) sorted) ∙ documents_of es
