-- Where no row repeats a place, no two documents have one place.
use Rattle.std.proofs.Common.{◌≡◌, ℕ, Bool, true, false, cond, ◌&&◌, ◌||◌, List, [], ◌∷◌, ◌++◌, length, map, Option, Some, None, append_assoc, eqb, ltb, refl, sym, subst, ◌∙◌, arith}
use Rattle.std.proofs.lemmas.Bool.Decides.{nat_tests}
use Rattle.std.proofs.lemmas.List.{append-nil, map-append}
use Rattle.std.proofs.lemmas.Map.Keys.{IsDistinct-push}
use Rattle.std.specs.Cmp.{eq_by_cmp_equiv}
use Rattle.std.specs.List.{IsDistinct, list_any}
use Rattle.std.specs.Ordering.{eq_by_cmp, is_eq, nat_cmp, ordering_then}
use Rattle.std.specs.declared.cmp.Ordering.{Ordering}
use Rattle.std.specs.declared.cmp.Ordering.TheVariants.{Less, Equal, Greater}
use Rattle.resh_value.specs.Order.{compare_of}
use Rattle.resh_chunks.specs.Chunks.{Chunks, owner_of}
use Rattle.resh_value.specs.Lookup.{id_of}
use Rattle.resh_bag.specs.Bag.{Document, place_cmp, place_of, HasDistinctPlaces}
use Rattle.resh_bag.specs.PlaceOrder.{place_total}
use Rattle.resh_setup.specs.Documents.{first_same, same_place}

equal_numbers : (m n : ℕ) → is_eq (nat_cmp m n) ≡ eqb m n
equal_numbers m n = by (ltb m n) (eqb m n) (never m n)
  where
    never : (m n : ℕ) → (ltb m n && eqb m n) ≡ false
    never m n = grind (arith, nat_tests)

    by : (a b : Bool) → (a && b) ≡ false → is_eq (cond a Less (cond b Equal Greater)) ≡ b
    by true true e = cc
    by true false e = refl
    by false true e = refl
    by false false e = refl

both_equal : (r : Ordering) (m n : ℕ) → is_eq (ordering_then r (nat_cmp m n)) ≡ (eqb m n && is_eq r)
both_equal Less m n = by (eqb m n)
  where
    by : (b : Bool) → false ≡ (b && false)
    by true = refl
    by false = refl
both_equal Equal m n = equal_numbers m n ∙ by (eqb m n)
  where
    by : (b : Bool) → b ≡ (b && true)
    by true = refl
    by false = refl
both_equal Greater m n = by (eqb m n)
  where
    by : (b : Bool) → false ≡ (b && false)
    by true = refl
    by false = refl

module _ (chunks : Chunks) where
  same_test : (d e : Document) → eq_by_cmp place_cmp (place_of chunks d) (place_of chunks e) ≡ same_place chunks d e
  same_test d e = both_equal (compare_of (id_of d) (id_of e)) (owner_of chunks d) (owner_of chunks e)

  same_any : (d : Document) (es : List Document) → list_any (eq_by_cmp place_cmp (place_of chunks d)) (map (place_of chunks) es) ≡ list_any (same_place chunks d) es
  same_any d [] = refl
  same_any d (e ∷ es) = λ i. same_test d e i || same_any d es i

  passed : (b : Bool) (n : ℕ) (r : Option ℕ) → cond b (Some n) r ≡ None → (b ≡ false) × (r ≡ None)
  passed true n r e = cc
  passed false n r e = (refl, e)

  distinct_from : (before ds : List Document) → HasDistinctPlaces chunks before → first_same chunks before ds ≡ None → HasDistinctPlaces chunks (before ++ ds)
  distinct_from before [] h e = subst (HasDistinctPlaces chunks) (sym (append-nil before)) h
  distinct_from before (d ∷ ds) h e =
      let now = passed (list_any (same_place chunks d) before) (length before) _ e in
      let keys : IsDistinct (eq_by_cmp place_cmp) (map (place_of chunks) before ++ place_of chunks d ∷ []) =
      IsDistinct-push (eq_by_cmp_equiv place_total) (map (place_of chunks) before) (place_of chunks d) h (same_any d before ∙ now.0) in
      let more : HasDistinctPlaces chunks (before ++ d ∷ []) = subst (IsDistinct (eq_by_cmp place_cmp)) (sym (map-append (place_of chunks) before (d ∷ []))) keys in
      subst (HasDistinctPlaces chunks) (append_assoc before (d ∷ []) ds) (distinct_from (before ++ d ∷ []) ds more now.1)

  pub distinct_rows : (ds : List Document) → first_same chunks [] ds ≡ None → HasDistinctPlaces chunks ds
  unfolding IsDistinct
  distinct_rows ds e = distinct_from [] ds tt e
