-- What a shard holds, as a bag of its own.
use Rattle.std.proofs.Common.{◌≡◌, ◌≢◌, ◌==◌, ◌||◌, ℕ, Bool, true, false, cond, List, [], ◌∷◌, map, find, length, Option, Some, None, is_some, refl, sym, ap, subst, ◌∙◌, ◌⊎◌, inl, inr, ⊎_elim, arith, Less, Equal, Greater}
use Rattle.std.proofs.lemmas.Bool.{eqb-true}
use Rattle.std.proofs.lemmas.Bool.Decides.{eqb_tells}
use Rattle.std.specs.FinMap.{empty, entries, entries-insert, len-empty, len-entries}
use Rattle.std.specs.FinMap.Entries.{by_order, put as put_entry}
use Rattle.std.specs.List.{AllByRecursion, Contains}
use Rattle.std.specs.List.Sorted.{IsStrictlySortedBy}
use Rattle.std.specs.Prelude.{IfSome}
use Rattle.std.specs.Ordering.{is_eq, nat_cmp, ordering_then}
use Rattle.std.specs.declared.cmp.Ordering.{Ordering}
use Rattle.resh_value.specs.Lookup.{id_of}
use Rattle.resh_value.specs.Order.{compare_of}
use Rattle.resh_value.specs.OrderLaws.{compare_itself, compare_same}
use Rattle.resh_value.specs.Whole.{is_whole}
use Rattle.resh_value.specs.declared.value.Value.{Value}
use Rattle.resh_versions.specs.Standing.{IsFiled, StandsUnder, VersionsOf, chain_of, now, standing_now}
use Rattle.resh_versions.proofs.ChainLaws.{newest_has}
use Rattle.resh_versions.proofs.Filing.{chain_named, chain_stands}
use Rattle.resh_versions.proofs.Listing.{stands_now}
use Rattle.resh_bag.specs.Bag.{Bag, Document, documents, held, place_cmp, put}
use Rattle.resh_bag.specs.Parts.{bag_over, of_id, put_all}
use Rattle.resh_bag.specs.Answer.{hit, matching}
use Rattle.resh_chunks.specs.Chunks.{Chunks, owner_of}
use Rattle.resh_filter.specs.Filters.{matches}
use Rattle.resh_bag.specs.PlaceOrder.{place_total}
use Rattle.resh_bag.proofs.Lists.{first_or_later, first_there, later_there}
use Rattle.resh_bag.proofs.shards.ByShard.{held_over, same_number}

tied : (a b : Value) → is_eq (compare_of a b) ≡ true → a ≡ b
tied a b e = by (compare_of a b) refl e
  where
    by : (r : Ordering) → compare_of a b ≡ r → is_eq r ≡ true → a ≡ b
    by Less f h = cc
    by Equal f h = compare_same a b f
    by Greater f h = cc

-- what is found in a list
pub find_there : {X : Type 0} (p : X → Bool) (xs : List X) (x : X) → find p xs ≡ Some x → Contains xs x × (p x ≡ true)
find_there p [] x e = cc
find_there {X} p (y ∷ ys) x e = by (λ h. find_there p ys x h) (p y) refl e
  where
    by : (find p ys ≡ Some x → Contains ys x × (p x ≡ true)) → (b : Bool) → p y ≡ b → cond b (Some y) (find p ys) ≡ Some x → Contains (y ∷ ys) x × (p x ≡ true)
    by onward true f h = let same : y ≡ x = cc in (subst (Contains (y ∷ ys)) same (first_there y ys), subst (λ z. p z ≡ true) same f)
    by onward false f h = let w = onward h in (later_there y ys x w.0, w.1)

pub find_all : {X : Type 0} (p : X → Bool) (xs : List X) (x : X) → Contains xs x → p x ≡ true → is_some (find p xs) ≡ true
find_all p [] x (n, within, is) t = absurd (omega (arith, within))
find_all p (y ∷ ys) x there t = by (λ later. find_all p ys x later t) (p y) refl (first_or_later y ys x there)
  where
    by : (Contains ys x → is_some (find p ys) ≡ true) → (b : Bool) → p y ≡ b → (y ≡ x) ⊎ Contains ys x → is_some (cond b (Some y) (find p ys)) ≡ true
    by onward true f h = refl
    by onward false f (inl same) = absurd (let off : true ≡ false = sym t ∙ sym (ap p same) ∙ f in cc)
    by onward false f (inr later) = onward later

-- what stands under an `_id` has it
pub stands_named : (v : VersionsOf) → IsFiled v.chains → (id : Value) (d : Document) → now v id ≡ Some d → id_of d ≡ id
stands_named v are id d f = subst (λ o. IfSome o (λ x. id_of x ≡ id)) f (newest_has (λ x. id_of x ≡ id) (chain_of v id) (chain_named v.chains id are))

pub stands_whole : (v : VersionsOf) → IsFiled v.chains → (id : Value) (d : Document) → now v id ≡ Some d → is_whole d ≡ true
stands_whole v are id d f = (subst (λ o. IfSome o (StandsUnder id)) f (newest_has (StandsUnder id) (chain_of v id) (chain_stands v.chains id are))).whole

-- documents by rising `_id` are those of the bag that they make on one shard
module _ (n : ℕ) where
  abbrev rows : List Document → List ((Value × ℕ) × Document)
  rows ds = map (λ d. ((id_of d, n), d)) ds

  put_first : (d : Document) (ds : List Document) → AllByRecursion (λ y. compare_of (id_of d) y ≡ Less) (map id_of ds)
      → put_entry place_cmp (id_of d, n) d (rows ds) ≡ ((id_of d, n), d) ∷ rows ds
  put_first d [] all = refl
  put_first d (e ∷ es) all =
      ap (λ r. by_order (ordering_then r (nat_cmp n n)) (((id_of d, n), d) ∷ ((id_of e, n), e) ∷ rows es) (((id_of e, n), d) ∷ rows es) (((id_of e, n), e) ∷ put_entry place_cmp (id_of d, n) d (rows es))) all.0

  no_entries : entries (empty {X = Document} {R = place_cmp}) ≡ []
  no_entries = none (entries empty) (sym (len-entries empty) ∙ len-empty place_cmp Document)
    where
      none : (es : List ((Value × ℕ) × Document)) → length es ≡ 0 → es ≡ []
      none [] e = refl
      none (e ∷ es) h = cc

  put_rows : (ds : List Document) → IsStrictlySortedBy compare_of (map id_of ds) → entries (put_all n ds empty) ≡ rows ds
  unfolding put IsStrictlySortedBy
  put_rows [] s = no_entries
  put_rows (d ∷ ds) s =
      entries-insert place_total (put_all n ds empty) (id_of d, n) d ∙ ap (put_entry place_cmp (id_of d, n) d) (put_rows ds s.1) ∙ put_first d ds s.0

  of_rows : (ds : List Document) → map (λ (e : (Value × ℕ) × Document). e.1) (rows ds) ≡ ds
  of_rows [] = refl
  of_rows (d ∷ ds) = ap (λ l. d ∷ l) (of_rows ds)

  documents_put : (ds : List Document) → IsStrictlySortedBy compare_of (map id_of ds) → documents (put_all n ds empty) ≡ ds
  unfolding documents
  documents_put ds s = ap (map (λ e. e.1)) (put_rows ds s) ∙ of_rows ds

-- nothing is held elsewhere
pub held_elsewhere : (all : List Document) (n t : ℕ) → t ≢ n → (id : Value) → held (bag_over (λ number. all) (n ∷ [])) t id ≡ None
held_elsewhere all n t other id =
    held_over (λ number. all) (n ∷ []) t id
    ∙ ap (λ b. cond (b || false) (of_id id all) None) (⊎_elim (λ k. absurd (other (sym k.1))) (λ k. k.0) (eqb_tells n t))

module _ (v : VersionsOf) (are : IsFiled v.chains) where
  abbrev all : List Document
  all = standing_now v None

  -- what stands under an `_id` is listed under it
  pub of_id_now : (id : Value) → of_id id all ≡ now v id
  of_id_now id = by (of_id id all) refl (now v id) refl
    where
      by : (o : Option Document) → of_id id all ≡ o → (p : Option Document) → now v id ≡ p → of_id id all ≡ now v id
      by (Some d) e p f =
          let w = find_there (λ x. is_eq (compare_of id (id_of x))) all d e in
          let r = stands_now.read v None d are w.0 in
          e ∙ sym r.0 ∙ ap (now v) (sym (tied id (id_of d) w.1))
      by None e None f = e ∙ sym f
      by None e (Some d) f =
          let there = stands_now.listed v None id d f refl in
          let named : id ≡ id_of d = sym (stands_named v are id d f) in
          let found = find_all (λ x. is_eq (compare_of id (id_of x))) all d there (subst (λ x. is_eq (compare_of id x) ≡ true) named (ap is_eq (compare_itself id))) in
          absurd (let off : true ≡ false = sym found ∙ ap is_some e in cc)

  module _ (n : ℕ) where
    abbrev own : Bag
    own = bag_over (λ number. all) (n ∷ [])

    pub held_here : (id : Value) → held own n id ≡ now v id
    held_here id =
        held_over (λ number. all) (n ∷ []) n id ∙ ap (λ b. cond (b || false) (of_id id all) None) (same_number n) ∙ of_id_now id

    pub documents_own : documents own ≡ all
    documents_own = documents_put n all (stands_now.rise v None are)

-- a filter whose key another shard owns hits nothing, and neither does one that the document doesn't match
pub hit_elsewhere : (map : Chunks) (all : List Document) (n : ℕ) (filter : Document) → (owner_of map filter == n) ≡ false → None ≡ hit map (bag_over (λ number. all) (n ∷ [])) filter
hit_elsewhere map all n filter other =
    sym (ap (matching filter) (held_elsewhere all n (owner_of map filter) (λ same. let is : true ≡ false = sym (ap (λ k. k == n) same ∙ same_number n) ∙ other in cc) (id_of filter)))

pub not_hit : (map : Chunks) (bag : Bag) (n : ℕ) (filter d : Document) → (owner_of map filter == n) ≡ true → Some d ≡ held bag n (id_of filter) → matches filter d ≡ false → None ≡ hit map bag filter
not_hit map bag n filter d own found fails =
    sym (ap (matching filter) ((λ i. held bag (eqb-true (owner_of map filter) n own i) (id_of filter)) ∙ sym found) ∙ ap (λ b. cond b (Some d) None) fails)
