-- A list parted by a number of each item: the parts, one after another, are the list in another order.
use Rattle.std.proofs.Common.{◌≡◌, ℕ, zero, suc, ◌+◌, ◌<◌, Bool, true, false, ◌&&◌, ◌||◌, cond, List, [], ◌∷◌, ◌++◌, filter, map, eqb, leb, ltb, refl, sym, ap, subst, ◌∙◌, arith}
use Rattle.std.proofs.lemmas.Bool.Decides.{nat_tests}
use Rattle.std.proofs.lemmas.List.Sorted.{IsPermutation-refl, IsPermutation-cons, IsPermutation-trans, IsPermutation-sym, IsPermutation-middle, IsPermutation-append_right}
use Rattle.std.specs.List.{flat_map, range_with_len}
use Rattle.std.specs.List.Sorted.{IsPermutation}

-- what passes one test passes exactly one of two others
split : {X : Type 0} (p q r : X → Bool) → ((x : X) → (p x ≡ (q x || r x)) × ((q x && r x) ≡ false)) → (xs : List X) → IsPermutation (filter p xs) (filter q xs ++ filter r xs)
split p q r one [] = IsPermutation-refl []
split {X} p q r one (x ∷ xs) = by (p x) (q x) (r x) (one x) (split p q r one xs)
  where
    by : (a b c : Bool) → (a ≡ (b || c)) × ((b && c) ≡ false) → IsPermutation (filter p xs) (filter q xs ++ filter r xs)
        → IsPermutation (cond a (x ∷ filter p xs) (filter p xs)) (cond b (x ∷ filter q xs) (filter q xs) ++ cond c (x ∷ filter r xs) (filter r xs))
    by false false false e h = h
    by true true false e h = IsPermutation-cons x _ _ h
    by true false true e h = IsPermutation-trans _ _ _ (IsPermutation-cons x _ _ h) (IsPermutation-sym _ _ (IsPermutation-middle (filter q xs) x (filter r xs)))
    by true false false (e, f) h = cc
    by false true c (e, f) h = cc
    by false false true (e, f) h = cc
    by a true true (e, f) h = cc

none_pass : {X : Type 0} (p : X → Bool) → ((x : X) → p x ≡ false) → (xs : List X) → filter p xs ≡ []
none_pass p fails [] = refl
none_pass p fails (x ∷ xs) = ap (λ b. cond b (x ∷ filter p xs) (filter p xs)) (fails x) ∙ none_pass p fails xs

all_pass : {X : Type 0} (p : X → Bool) → ((x : X) → p x ≡ true) → (xs : List X) → filter p xs ≡ xs
all_pass p yes' [] = refl
all_pass p yes' (x ∷ xs) = ap (λ b. cond b (x ∷ filter p xs) (filter p xs)) (yes' x) ∙ ap (λ l. x ∷ l) (all_pass p yes' xs)

abbrev within : ℕ → ℕ → ℕ → Bool
within a n k = leb a k && ltb k (a + n)

nothing_within : (a k : ℕ) → within a 0 k ≡ false
nothing_within a k = grind (arith, nat_tests)

first_within : (a n k : ℕ) → (within a (suc n) k ≡ (eqb k a || within (a + 1) n k)) × ((eqb k a && within (a + 1) n k) ≡ false)
first_within a n k = (grind (arith, nat_tests), grind (arith, nat_tests))

all_within : (n k : ℕ) → k < n → within 0 n k ≡ true
all_within n k h = grind (arith, nat_tests)

module _ {X : Type 0} (f : X → ℕ) (xs : List X) where
  parts_of_range : (a n : ℕ) → IsPermutation (filter (λ x. within a n (f x)) xs) (flat_map (λ p. p) (map (λ s. filter (λ x. eqb (f x) s) xs) (range_with_len a n)))
  parts_of_range a zero = subst (λ (l : List X). IsPermutation l []) (sym (none_pass (λ x. within a 0 (f x)) (λ x. nothing_within a (f x)) xs)) (IsPermutation-refl [])
  parts_of_range a (suc n) =
      IsPermutation-trans _ _ _ (split (λ x. within a (suc n) (f x)) (λ x. eqb (f x) a) (λ x. within (a + 1) n (f x)) (λ x. first_within a n (f x)) xs)
      (IsPermutation-append_right (filter (λ x. eqb (f x) a) xs) _ _ (parts_of_range (a + 1) n))

  pub parted : (n : ℕ) → ((x : X) → f x < n) → IsPermutation xs (flat_map (λ p. p) (map (λ s. filter (λ x. eqb (f x) s) xs) (range_with_len 0 n)))
  parted n below =
      subst (λ (l : List X). IsPermutation l (flat_map (λ p. p) (map (λ s. filter (λ x. eqb (f x) s) xs) (range_with_len 0 n))))
      (all_pass (λ x. within 0 n (f x)) (λ x. all_within n (f x) (below x)) xs) (parts_of_range 0 n)
