-- A shard that has loaded documents: what it holds, against the collection that opens with them.
use Rattle.std.proofs.Common.{◌≡◌, ◌≢◌, ◌≤◌, ◌⊎◌, ◌==◌, inl, inr, ℕ, Bool, true, false, ◌&&◌, ◌||◌, cond, List, [], ◌∷◌, ◌++◌, length, filter, Option, Some, None, refl, sym, ap, subst, ◌∙◌, arith}
use Rattle.std.proofs.lemmas.Bool.{eqb-true}
use Rattle.std.proofs.lemmas.Map.Views.{tells_apart}
use Rattle.std.specs.FinMap.{empty, get-empty}
use Rattle.std.specs.Bool.{⊤}
use Rattle.std.specs.List.{AllByRecursion, Contains, fold, list_any}
use Rattle.std.specs.Ordering.{is_eq}
use Rattle.resh_value.specs.Lookup.{id_of}
use Rattle.resh_value.specs.Order.{compare_of, is_same}
use Rattle.resh_value.specs.OrderLaws.{compare_same}
use Rattle.resh_value.specs.Whole.{IsWhole}
use Rattle.resh_value.specs.declared.value.Value.{Value}
use Rattle.resh_bag.specs.Bag.{held, opening_bag, place_cmp, put}
use Rattle.resh_bag.proofs.bags.BagLaws.{puts_one}
use Rattle.resh_chunks.specs.Chunks.{Chunks, owner_of}
use Rattle.resh_oplog.specs.declared.entry.What.TheVariants.{Insert}
use Rattle.resh_setup.specs.Documents.{first_same, same_place}
use Rattle.resh_shard.specs.Shards.{Shard, with_loaded}
use Rattle.resh_versions.specs.Chains.{Document, version}
use Rattle.resh_versions.specs.Standing.{VersionsOf, IsFiled, IsUpTo, at, chain_of, now, standing, with_version}
use Rattle.resh_versions.specs.declared.version.Version.{Version}
use Rattle.resh_versions.proofs.Listing.{first_there, later_there, stands_by_reading}
use Rattle.resh_versions.proofs.WriteLaws.{adds_version, reads_now, starts_empty}
use Rattle.resh_story.proofs.Entries.{all_weaker}
use Rattle.resh_story.proofs.Slots.{same_as, same_number}
use Rattle.resh_invariant.specs.Items.{IsItemOf}

never : {A : Type 0} → true ≡ false → A
never e = cc

one_id : (a b : Value) → is_same a b ≡ true → a ≡ b
one_id a b e = tells_apart compare_same a b e

-- the versions with documents that stand from the first time on
abbrev pub loaded_into : VersionsOf → List Document → VersionsOf
loaded_into versions ds = fold (λ v d. with_version v (id_of d) (version 0 (Some d))) versions ds

pub loaded_shard : (ds : List Document) (shard : Shard)
    → fold with_loaded shard ds ≡ record shard { versions = loaded_into shard.versions ds }
loaded_shard [] shard = refl
loaded_shard (d ∷ ds) shard = loaded_shard ds (with_loaded shard d)

pub loaded_floor : (ds : List Document) (versions : VersionsOf) → (loaded_into versions ds).floor ≡ versions.floor
loaded_floor [] versions = refl
loaded_floor (d ∷ ds) versions = loaded_floor ds (with_version versions (id_of d) (version 0 (Some d)))

-- the last document of an `_id`, or what was there before
abbrev last_from : Option Document → List Document → Value → Option Document
last_from before ds id = fold (λ found d. cond (is_same id (id_of d)) (Some d) found) before ds

module _ (id : Value) where
  with_one : (versions : VersionsOf) (d : Document)
      → now (with_version versions (id_of d) (version 0 (Some d))) id ≡ cond (is_same id (id_of d)) (Some d) (now versions id)
  with_one versions d = by (is_same id (id_of d)) refl
    where
      by : (t : Bool) → is_same id (id_of d) ≡ t
          → now (with_version versions (id_of d) (version 0 (Some d))) id ≡ cond t (Some d) (now versions id)
      by true e =
          ap (now (with_version versions (id_of d) (version 0 (Some d)))) (one_id id (id_of d) e)
          ∙ adds_version.now_there versions (id_of d) (version 0 (Some d))
      by false e = adds_version.now_elsewhere versions (id_of d) id (version 0 (Some d)) (λ same. never (sym (same_as id (id_of d) same) ∙ e))

  pub loaded_now : (ds : List Document) (versions : VersionsOf) → now (loaded_into versions ds) id ≡ last_from (now versions id) ds id
  loaded_now [] versions = refl
  loaded_now (d ∷ ds) versions =
      loaded_now ds (with_version versions (id_of d) (version 0 (Some d)))
      ∙ ap (λ found. last_from found ds id) (with_one versions d)

-- what is read is one of the documents, of the `_id`
last_is : (P : Document → Type 0) (id : Value) (ds : List Document) (before : Option Document) (d : Document)
    → AllByRecursion P ds → (before ≡ Some d → P d) → last_from before ds id ≡ Some d → P d
last_is P id [] before d all was is = was is
last_is P id (e ∷ ds) before d all was is = last_is P id ds (cond (is_same id (id_of e)) (Some e) before) d all.1 (by (is_same id (id_of e))) is
  where
    by : (t : Bool) → cond t (Some e) before ≡ Some d → P d
    by true h = subst P (same_some e d h) all.0
      where
        same_some : (x y : Document) → Some x ≡ Some y → x ≡ y
        same_some x y h = cc
    by false h = was h

nothing_is : {X : Type 0} (x : X) → None ≡ Some x → ⊥
nothing_is x e = cc

abbrev pub blank : VersionsOf
blank = record { chains = empty; floor = 0 }

module _ (old_map : Chunks) (s : ℕ) where
  abbrev pub owned : List Document → List Document
  owned ds = filter (λ d. owner_of old_map d == s) ds

  -- documents that a shard owns, read at any time, are its items
  owned_items : (ds : List Document) → AllByRecursion IsWhole ds → AllByRecursion (λ d. IsItemOf old_map s (Insert d)) (owned ds)
  owned_items [] all = tt
  owned_items (d ∷ ds) all = by (owner_of old_map d == s) refl (owned_items ds all.1)
    where
      by : (t : Bool) → (owner_of old_map d == s) ≡ t → AllByRecursion (λ d. IsItemOf old_map s (Insert d)) (owned ds)
          → AllByRecursion (λ d. IsItemOf old_map s (Insert d)) (cond t (d ∷ owned ds) (owned ds))
      by true e rest = ((all.0, eqb-true (owner_of old_map d) s e), rest)
      by false e rest = rest

  all_of : {X : Type 0} (P : X → Type 0) (xs : List X) → ((x : X) → Contains xs x → P x) → AllByRecursion P xs
  all_of P [] h = tt
  all_of P (x ∷ xs) h = (h x (first_there x xs), all_of P xs (λ y there. h y (later_there x xs y there)))

  pub loaded_items : (ds : List Document) → AllByRecursion IsWhole ds → IsFiled (loaded_into blank (owned ds)).chains
      → IsUpTo 0 (loaded_into blank (owned ds)) → (time : ℕ)
      → AllByRecursion (λ d. IsItemOf old_map s (Insert d)) (standing (loaded_into blank (owned ds)) time)
  loaded_items ds whole filed up_to time =
      all_of (λ d. IsItemOf old_map s (Insert d)) (standing (loaded_into blank (owned ds)) time)
      (λ d there. last_is (λ d. IsItemOf old_map s (Insert d)) (id_of d) (owned ds) (now blank (id_of d)) d (owned_items ds whole)
      (λ h. absurd (nothing_is d (sym (starts_empty.now 0 (id_of d)) ∙ h)))
      (sym (loaded_now (id_of d) (owned ds) blank) ∙ sym (at_now (id_of d)) ∙ (stands_by_reading.read (loaded_into blank (owned ds)) time None d filed there).0))
    where
      at_now : (id : Value) → at (loaded_into blank (owned ds)) time id ≡ now (loaded_into blank (owned ds)) id
      at_now id = reads_now (loaded_into blank (owned ds)) time id
          (all_weaker (λ (v : Version). v.time ≤ 0) (λ (v : Version). v.time ≤ time) (λ v h. omega (arith, h)) (chain_of (loaded_into blank (owned ds)) id) (up_to id))

  -- no two documents have one place
  abbrev Apart : List Document → Type 0
  Apart [] = ⊤
  Apart (d ∷ ds) = AllByRecursion (λ e. same_place old_map e d ≡ false) ds × Apart ds

  none_before : (p : Document → Bool) (before : List Document) (d : Document) → list_any p (before ++ d ∷ []) ≡ false → (list_any p before ≡ false) × (p d ≡ false)
  none_before p [] d h = (refl, by (p d) h)
    where
      by : (t : Bool) → (t || false) ≡ false → t ≡ false
      by true h = h
      by false h = refl
  none_before p (e ∷ before) d h = by (p e) (none_before p before d) h
    where
      by : (t : Bool) → (list_any p (before ++ d ∷ []) ≡ false → (list_any p before ≡ false) × (p d ≡ false))
          → (t || list_any p (before ++ d ∷ [])) ≡ false → ((t || list_any p before) ≡ false) × (p d ≡ false)
      by true rest h = never h
      by false rest h = rest h

  apart_from : (before ds : List Document) → first_same old_map before ds ≡ None
      → AllByRecursion (λ e. list_any (same_place old_map e) before ≡ false) ds × Apart ds
  apart_from before [] h = (tt, tt)
  apart_from before (d ∷ ds) h = by (list_any (same_place old_map d) before) refl h (apart_from (before ++ d ∷ []) ds)
    where
      some_none : {X : Type 0} (x : X) → Some x ≡ None → ⊥
      some_none x e = cc

      by : (t : Bool) → list_any (same_place old_map d) before ≡ t
          → cond t (Some (length before)) (first_same old_map (before ++ d ∷ []) ds) ≡ None
          → (first_same old_map (before ++ d ∷ []) ds ≡ None → AllByRecursion (λ e. list_any (same_place old_map e) (before ++ d ∷ []) ≡ false) ds × Apart ds)
          → AllByRecursion (λ e. list_any (same_place old_map e) before ≡ false) (d ∷ ds) × Apart (d ∷ ds)
      by true e h rest = absurd (some_none (length before) h)
      by false e h rest =
          let r = rest h in (
            (
              e,
              all_weaker (λ x. list_any (same_place old_map x) (before ++ d ∷ []) ≡ false) (λ x. list_any (same_place old_map x) before ≡ false)
                  (λ x k. (none_before (same_place old_map x) before d k).0) ds r.0,
            ),
            (
              all_weaker (λ x. list_any (same_place old_map x) (before ++ d ∷ []) ≡ false) (λ x. same_place old_map x d ≡ false)
                  (λ x k. (none_before (same_place old_map x) before d k).1) ds r.0,
              r.1,
            ),
          )

  module _ (id : Value) where
    -- no document of another place is read
    others_pass : (d : Document) → (owner_of old_map d == s) ≡ true → is_same id (id_of d) ≡ true → (ds : List Document)
        → AllByRecursion (λ e. same_place old_map e d ≡ false) ds → (before : Option Document) → last_from before (owned ds) id ≡ before
    others_pass d own is [] all before = refl
    others_pass d own is (e ∷ ds) all before = by (owner_of old_map e == s) refl (is_same id (id_of e)) refl (others_pass d own is ds all.1)
      where
        clash : (owner_of old_map e == s) ≡ true → is_same id (id_of e) ≡ true → ⊥
        clash mine same =
            let owners : owner_of old_map e ≡ owner_of old_map d = eqb-true (owner_of old_map e) s mine ∙ sym (eqb-true (owner_of old_map d) s own) in
            let ids : id_of e ≡ id_of d = sym (one_id id (id_of e) same) ∙ one_id id (id_of d) is in
            never (sym (ap (λ n. (n == owner_of old_map d) && is_eq (compare_of (id_of e) (id_of d))) owners
            ∙ ap (λ t. t && is_eq (compare_of (id_of e) (id_of d))) (same_number (owner_of old_map d))
            ∙ same_as (id_of e) (id_of d) ids) ∙ all.0)

        by : (t : Bool) → (owner_of old_map e == s) ≡ t → (u : Bool) → is_same id (id_of e) ≡ u
            → ((before : Option Document) → last_from before (owned ds) id ≡ before)
            → last_from before (cond t (e ∷ owned ds) (owned ds)) id ≡ before
        by true mine true same rest = absurd (clash mine same)
        by true mine false same rest = ap (λ u. last_from (cond u (Some e) before) (owned ds) id) same ∙ rest before
        by false mine u same rest = rest before

    loaded_is : (ds : List Document) → Apart ds → last_from None (owned ds) id ≡ held (opening_bag old_map ds) s id
    unfolding held
    loaded_is [] apart = sym (get-empty place_cmp (id, s))
    loaded_is (d ∷ ds) apart = by (owner_of old_map d == s) refl (is_same id (id_of d)) refl (loaded_is ds apart.1)
      where
        elsewhere : (s ≢ owner_of old_map d) ⊎ (id ≢ id_of d) → held (opening_bag old_map (d ∷ ds)) s id ≡ held (opening_bag old_map ds) s id
        elsewhere other = puts_one.elsewhere (opening_bag old_map ds) (owner_of old_map d) s d id other

        there : (owner_of old_map d ≡ s) → (id_of d ≡ id) → held (opening_bag old_map (d ∷ ds)) s id ≡ Some d
        there owner is =
            subst (λ n. held (put (opening_bag old_map ds) (owner_of old_map d) d) n id ≡ Some d) owner
            (subst (λ i. held (put (opening_bag old_map ds) (owner_of old_map d) d) (owner_of old_map d) i ≡ Some d) is
            (puts_one.there (opening_bag old_map ds) (owner_of old_map d) d))

        by : (t : Bool) → (owner_of old_map d == s) ≡ t → (u : Bool) → is_same id (id_of d) ≡ u
            → last_from None (owned ds) id ≡ held (opening_bag old_map ds) s id
            → last_from None (cond t (d ∷ owned ds) (owned ds)) id ≡ held (opening_bag old_map (d ∷ ds)) s id
        by true mine true same rest =
            ap (λ u. last_from (cond u (Some d) None) (owned ds) id) same ∙ others_pass d mine same ds apart.0 (Some d)
            ∙ sym (there (eqb-true (owner_of old_map d) s mine) (sym (one_id id (id_of d) same)))
        by true mine false same rest =
            ap (λ u. last_from (cond u (Some d) None) (owned ds) id) same ∙ rest
            ∙ sym (elsewhere (inr (λ e. never (sym (same_as id (id_of d) e) ∙ same))))
        by false mine u same rest = rest ∙ sym (elsewhere (inl (λ e. never (sym (ap (λ n. owner_of old_map d == n) e ∙ same_number (owner_of old_map d)) ∙ mine))))

  pub loaded_holds : (ds : List Document) → first_same old_map [] ds ≡ None → (id : Value)
      → now (loaded_into blank (owned ds)) id ≡ held (opening_bag old_map ds) s id
  loaded_holds ds distinct id =
      loaded_now id (owned ds) blank ∙ ap (λ b. last_from b (owned ds) id) (starts_empty.now 0 id) ∙ loaded_is id ds (apart_from [] ds distinct).1
