-- The places that earlier rows have.
use Rattle.std.proofs.Common.{◌≡◌, ◌∙◌, ℕ, ◌+◌, ◌<◌, ◌≤◌, ◌==◌, Bool, true, false, cond, ltb, eq-eqb, get_or, subst, List, [], ◌∷◌, ◌++◌, length, length-append, Bor, Some, BTreeSet, refl, sym, ap, arith}
use Rattle.std.specs.Prelude.{◌&&◌, ◌||◌, codes}
use Rattle.std.specs.declared.cmp.Ordering.{Ordering}
use Rattle.std.specs.declared.cmp.Ordering.TheVariants.{Less, Equal, Greater}
use Rattle.std.specs.Ordering.{is_eq, nat_cmp, ordering_then}
use Rattle.std.specs.BTreeSet.{contains}
use Rattle.std.specs.List.{list_any}
use Rattle.std.proofs.lemmas.Bool.{ltb-true, eqb-true, eqb-false}
use Rattle.std.proofs.lemmas.List.Folds.{list_any-append}
use Rattle.std.specs.Cmp.{eq_by_cmp_equiv}
use Rattle.resh_value.specs.Order.{compare_of}
use Rattle.resh_value.specs.OrderLaws.{compare_total}
use Rattle.resh_value.specs.declared.value.Value.{Value}
use Rattle.resh_chunks.specs.Chunks.{Chunks, owner_of}
use Rattle.resh_value.specs.Lookup.{value_under}
use Rattle.resh_setup.specs.Documents.{Document, same_place, first_same}

-- a shard and a reference to an `_id`
abbrev pub Place : Type 0
Place = ℕ × Bor Value

abbrev pub place_cmp : Place → Place → Ordering
place_cmp p q = ordering_then (nat_cmp p.0 q.0) (compare_of p.1.now q.1.now)

-- a document has the place
abbrev pub has_place : Chunks → Place → Document → Bool
has_place chunks p d = (p.0 == owner_of chunks d) && is_eq (compare_of p.1.now (value_under d (codes "_id")))

-- the rows `before` were passed with their places taken, and no two of these are the same
pub record IsPassed (chunks : Chunks) (all : List Document) (taken : BTreeSet Place) (row : ℕ) (rest : List Document) : Type 0 where
  pub before : List Document
  pub number : row ≡ length before
  pub same : first_same chunks [] all ≡ first_same chunks before rest
  pub holds : (p : Place) → contains place_cmp taken p ≡ list_any (has_place chunks p) before
  pub left : length before + length rest ≡ length all

is_eq-ordering_then : (r s : Ordering) → is_eq (ordering_then r s) ≡ (is_eq r && is_eq s)
is_eq-ordering_then Less s = refl
is_eq-ordering_then Equal s = refl
is_eq-ordering_then Greater s = refl

or_later : (e c : Bool) → cond e true c ≡ (c || (e || false))
or_later true true = refl
or_later true false = refl
or_later false true = refl
or_later false false = refl

unequal_by : (a b : ℕ) (t : Bool) → (a == b) ≡ t → (b == a) ≡ false → t ≡ false
unequal_by a b true p q = let e : a ≡ b = eqb-true a b p in absurd (eqb-false b a q (sym e))
unequal_by a b false p q = refl

unequal : (a b : ℕ) → (b == a) ≡ false → (a == b) ≡ false
unequal a b q = unequal_by a b (a == b) refl q

is_eq-nat_cmp_by : (a b : ℕ) (x y : Bool) → ltb a b ≡ x → (b == a) ≡ y → is_eq (cond x Less (cond (a == b) Equal Greater)) ≡ y
is_eq-nat_cmp_by a b true true p q = let l : a < b = ltb-true a b p in let e : b ≡ a = eqb-true b a q in absurd (omega arith)
is_eq-nat_cmp_by a b true false p q = refl
is_eq-nat_cmp_by a b false true p q = let e : a ≡ b = sym (eqb-true b a q) in ap (λ t. is_eq (cond t Equal Greater)) (eq-eqb a b e)
is_eq-nat_cmp_by a b false false p q =
    let n : (a == b) ≡ false = unequal a b q in
    ap (λ t. is_eq (cond t Equal Greater)) n

is_eq-nat_cmp : (a b : ℕ) → is_eq (nat_cmp a b) ≡ (b == a)
is_eq-nat_cmp a b = is_eq-nat_cmp_by a b (ltb a b) (b == a) refl refl

module _ (chunks : Chunks) (p : Place) (d : Document) (owned : p.0 ≡ owner_of chunks d) (named : p.1.now ≡ value_under d (codes "_id")) where
  tests_alike : (b : Document) → has_place chunks p b ≡ same_place chunks d b
  tests_alike b = λ i. (owned i == owner_of chunks b) && is_eq (compare_of (named i) (value_under b (codes "_id")))

  any_alike : (before : List Document) → list_any (has_place chunks p) before ≡ list_any (same_place chunks d) before
  any_alike before = λ i. list_any (λ b. tests_alike b i) before

  place_told : (q : Place) → is_eq (place_cmp p q) ≡ has_place chunks q d
  place_told q =
      is_eq-ordering_then (nat_cmp p.0 q.0) (compare_of p.1.now q.1.now)
      ∙ (λ i. is_eq-nat_cmp p.0 q.0 i && (eq_by_cmp_equiv compare_total).symm p.1.now q.1.now i)
      ∙ (λ i. (q.0 == owned i) && is_eq (compare_of q.1.now (named i)))

  module _ (all : List Document) (taken : BTreeSet Place) (row : ℕ) where
    -- the place of the next row is taken
    pub found_same : (rest : List Document) → 1 ≤ length rest → d ≡ get_or rest 0 d → IsPassed chunks all taken row rest → contains place_cmp taken p ≡ true → Some row ≡ first_same chunks [] all
    found_same [] l is h at = absurd (omega arith)
    found_same (x ∷ later) l is h at =
        let here : list_any (same_place chunks x) h.before ≡ true = subst (λ (y : Document). list_any (same_place chunks y) h.before ≡ true) is (sym (any_alike h.before) ∙ sym (h.holds p) ∙ at) in
        sym (h.same ∙ ap (λ b. cond b (Some (length h.before)) (first_same chunks (h.before ++ x ∷ []) later)) here ∙ ap Some (sym h.number))

    -- the place of the next row was free, and is taken from now on
    pub passed_more : (after : BTreeSet Place) (later rest : List Document) → rest ≡ d ∷ later → IsPassed chunks all taken row rest → contains place_cmp taken p ≡ false
        → ((q : Place) → contains place_cmp after q ≡ cond (is_eq (place_cmp p q)) true (contains place_cmp taken q)) → IsPassed chunks all after (row + 1) later
    passed_more after later rest is h free updated =
        let whole : IsPassed chunks all taken row (d ∷ later) = subst (IsPassed chunks all taken row) is h in
        let new : list_any (same_place chunks d) whole.before ≡ false = sym (any_alike whole.before) ∙ sym (whole.holds p) ∙ free in
        record {
          before = whole.before ++ d ∷ [];
          number = omega (arith, whole.number, length-append whole.before (d ∷ []));
          same = whole.same ∙ ap (λ b. cond b (Some (length whole.before)) (first_same chunks (whole.before ++ d ∷ []) later)) new;
          holds = λ q. updated q
              ∙ (λ i. cond (place_told q i) true (whole.holds q i))
              ∙ or_later (has_place chunks q d) (list_any (has_place chunks q) whole.before)
              ∙ sym (list_any-append (has_place chunks q) whole.before (d ∷ []));
          left = omega (arith, whole.left, length-append whole.before (d ∷ []));
        }
