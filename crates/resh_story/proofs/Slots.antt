-- Documents by rising `_id`, as inserts, leave in each slot the document of its `_id`; so a clone part leaves what stood.
use Rattle.std.proofs.Common.{◌≡◌, ◌==◌, ◌⊎◌, inl, inr, ⊎_elim, ℕ, Bool, true, false, cond, List, [], ◌∷◌, ◌++◌, map, find, Option, Some, None, is_some, refl, sym, ap, subst, ◌∙◌, arith, Less}
use Rattle.std.proofs.lemmas.Bool.{eqb-true}
use Rattle.std.proofs.lemmas.Bool.Decides.{eqb_tells}
use Rattle.std.proofs.lemmas.List.{map-append}
use Rattle.std.specs.List.{AllByRecursion, Contains}
use Rattle.std.specs.List.Sorted.{IsStrictlySortedBy}
use Rattle.std.specs.Prelude.{IfSome}
use Rattle.std.specs.Ordering.{is_eq}
use Rattle.resh_value.specs.Lookup.{id_of}
use Rattle.resh_value.specs.Order.{compare_of, is_same}
use Rattle.resh_value.specs.OrderLaws.{compare_itself, same_from_test}
use Rattle.resh_value.specs.declared.value.Value.{Value}
use Rattle.resh_chunks.specs.Chunks.{Chunks, owner_of}
use Rattle.resh_oplog.specs.declared.entry.Entry.{Entry}
use Rattle.resh_oplog.specs.declared.entry.What.{What}
use Rattle.resh_feed.specs.Effects.{effects_on}
use Rattle.resh_feed.specs.Feeds.{items_of, whats}
use Rattle.resh_feed.specs.Items.{cloned_item, fetched_item}
use Rattle.resh_feed.specs.declared.item.Item.{Item}
use Rattle.resh_feed.proofs.Fitting.{effects_append}
use Rattle.resh_versions.specs.Chains.{Document}
use Rattle.resh_versions.specs.Standing.{IsFiled, VersionsOf, at, chain_of}
use Rattle.resh_versions.proofs.ChainLaws.{chain_at_has}
use Rattle.resh_versions.proofs.Filing.{chain_named}
use Rattle.resh_versions.proofs.Listing.{first_or_later, first_there, later_there}
use Rattle.resh_shard.specs.Laws.{comes}
use Rattle.resh_cloner.specs.Cloning.{clone_part}
use Rattle.resh_cloner.proofs.Cloned.{clones_each, clones_in_order}

-- documents as inserts
abbrev pub inserts : List Document → List What
inserts documents = whats (map cloned_item documents)

-- the contents of entries
abbrev pub said : List Entry → List What
said entries = map (λ entry. entry.what) entries

abbrev pub is_to : ℕ → ℕ → Bool
is_to recipient number = number == recipient

pub same_number : (n : ℕ) → (n == n) ≡ true
same_number n = ⊎_elim (λ k. k.0) (λ k. absurd (k.1 refl)) (eqb_tells n n)

pub same_as : (a b : Value) → a ≡ b → is_same a b ≡ true
same_as a b same = subst (λ x. is_same a x ≡ true) same (ap is_eq (compare_itself a))

module _ (id : Value) where
  -- the document of the `_id`
  abbrev pub found : List Document → Option Document
  found documents = find (λ d. is_same id (id_of d)) documents

  -- inserts of greater `_id`s
  others_leave : (k : Value) (ds : List Document) → is_same id k ≡ true → AllByRecursion (λ y. compare_of k y ≡ Less) (map id_of ds)
      → (s : Option Document) → effects_on id (inserts ds) s ≡ s
  others_leave k [] same below s = refl
  others_leave k (d ∷ ds) same below s =
      ap (λ b. effects_on id (inserts ds) (cond b (Some d) s)) apart ∙ others_leave k ds same below.1 s
    where
      apart : is_same id (id_of d) ≡ false
      apart = subst (λ q. is_same q (id_of d) ≡ false) (sym (same_from_test id k same)) (ap is_eq below.0)

  inserted : (ds : List Document) → IsStrictlySortedBy compare_of (map id_of ds) → effects_on id (inserts ds) None ≡ found ds
  unfolding IsStrictlySortedBy
  inserted [] s = refl
  inserted (d ∷ ds) s = by (inserted ds s.1) (is_same id (id_of d)) refl
    where
      by : effects_on id (inserts ds) None ≡ found ds → (b : Bool) → is_same id (id_of d) ≡ b
          → effects_on id (inserts ds) (cond (is_same id (id_of d)) (Some d) None) ≡ cond (is_same id (id_of d)) (Some d) (found ds)
      by onward true e =
          ap (λ b. effects_on id (inserts ds) (cond b (Some d) None)) e ∙ others_leave (id_of d) ds e s.0 (Some d)
          ∙ sym (ap (λ b. cond b (Some d) (found ds)) e)
      by onward false e =
          ap (λ b. effects_on id (inserts ds) (cond b (Some d) None)) e ∙ onward ∙ sym (ap (λ b. cond b (Some d) (found ds)) e)

  -- what is found among documents
  found_there : (ds : List Document) (d : Document) → found ds ≡ Some d → Contains ds d × (is_same id (id_of d) ≡ true)
  found_there [] d e = cc
  found_there (x ∷ xs) d e = by (λ h. found_there xs d h) (is_same id (id_of x)) refl e
    where
      by : (found xs ≡ Some d → Contains xs d × (is_same id (id_of d) ≡ true)) → (b : Bool) → is_same id (id_of x) ≡ b
          → cond b (Some x) (found xs) ≡ Some d → Contains (x ∷ xs) d × (is_same id (id_of d) ≡ true)
      by onward true f h =
          let same : x ≡ d = cc in
          (subst (Contains (x ∷ xs)) same (first_there x xs), subst (λ z. is_same id (id_of z) ≡ true) same f)
      by onward false f h = let w = onward h in (later_there x xs d w.0, w.1)

  is_found : (ds : List Document) (d : Document) → Contains ds d → is_same id (id_of d) ≡ true → is_some (found ds) ≡ true
  is_found [] d (n, within, is) t = absurd (omega (arith, within))
  is_found (x ∷ xs) d there t = by (λ later. is_found xs d later t) (is_same id (id_of x)) refl (first_or_later x xs d there)
    where
      by : (Contains xs d → is_some (found xs) ≡ true) → (b : Bool) → is_same id (id_of x) ≡ b → (x ≡ d) ⊎ Contains xs d
          → is_some (cond b (Some x) (found xs)) ≡ true
      by onward true f h = refl
      by onward false f (inl same) =
          absurd (let off : true ≡ false = sym t ∙ sym (ap (λ z. is_same id (id_of z)) same) ∙ f in cc)
      by onward false f (inr later) = onward later

module _ (v : VersionsOf) (filed : IsFiled v.chains) (time : ℕ) (id : Value) where
  named_at : (d : Document) → at v time id ≡ Some d → id_of d ≡ id
  named_at d is =
      subst (λ o. IfSome o (λ x. id_of x ≡ id)) is
      (chain_at_has (λ x. id_of x ≡ id) time (chain_of v id) (chain_named v.chains id filed))

  module _ (new : Chunks) (r : ℕ) where
    abbrev part : List Document
    part = clone_part v new time r

    found_part : found id part ≡ comes (is_to r) new (at v time id)
    found_part = by (found id part) refl (at v time id) refl
      where
        owned : (d : Document) → found id part ≡ None → at v time id ≡ Some d → (b : Bool) → (owner_of new d == r) ≡ b
            → found id part ≡ comes (is_to r) new (at v time id)
        owned d e f false g = e ∙ sym (ap (comes (is_to r) new) f ∙ ap (λ b. cond b (Some d) None) g)
        owned d e f true g =
            let named : id ≡ id_of d = sym (named_at d f) in
            let there = clones_each.left v new time r None d (ap (at v time) (sym named) ∙ f) refl (eqb-true (owner_of new d) r g) in
            absurd (let off : true ≡ false = sym (is_found id part d there (same_as id (id_of d) named)) ∙ ap is_some e in cc)

        by : (o : Option Document) → found id part ≡ o → (p : Option Document) → at v time id ≡ p
            → found id part ≡ comes (is_to r) new (at v time id)
        by (Some d) e p f =
            let w = found_there id part d e in
            let s = clones_each.stood v new time r None d filed w.0 in
            e
            ∙ sym (ap (λ q. comes (is_to r) new (at v time q)) (same_from_test id (id_of d) w.1) ∙ ap (comes (is_to r) new) s.0
            ∙ ap (λ n. cond (n == r) (Some d) None) s.2 ∙ ap (λ b. cond b (Some d) None) (same_number r))
        by None e None f = e ∙ sym (ap (comes (is_to r) new) f)
        by None e (Some d) f = owned d e f (owner_of new d == r) refl

    -- the clone part leaves what stood at the time and comes to the recipient
    pub clone_leaves : effects_on id (inserts part) None ≡ comes (is_to r) new (at v time id)
    clone_leaves = inserted id part (clones_in_order.rise v new time r None filed) ∙ found_part

fetched_say : (es : List Entry) → whats (map fetched_item es) ≡ said es
fetched_say [] = refl
fetched_say (e ∷ es) = ap (λ l. e.what ∷ l) (fetched_say es)

-- documents and then entries
pub items_say : (ds : List Document) (es : List Entry) → whats (items_of ds es) ≡ inserts ds ++ said es
items_say ds es =
    map-append (λ (item : Item). item.what) (map cloned_item ds) (map fetched_item es) ∙ ap (λ l. inserts ds ++ l) (fetched_say es)

pub items_leave : (id : Value) (ds : List Document) (es : List Entry) (s : Option Document)
    → effects_on id (whats (items_of ds es)) s ≡ effects_on id (said es) (effects_on id (inserts ds) s)
items_leave id ds es s =
    ap (λ l. effects_on id l s) (items_say ds es) ∙ effects_append id (inserts ds) (said es) s
