-- Sums of which one part changes, or each.
use Rattle.std.proofs.Common.{◌≡◌, ◌<◌, ◌≤◌, ℕ, zero, suc, ◌+◌, Bool, true, false, List, [], ◌∷◌, ◌++◌, length, refl, ap, subst, slice_index_or, slice_set, nat_eq}
use native.Mathlib.Omega.{arith}
use Rattle.resh_rounds.specs.Sums.{total, upto}

nothing : (n : ℕ) → 0 ≤ n
nothing n = omega arith

never : (k : ℕ) → k < 0 → ⊥
never k lt = omega arith

sooner : (a b : ℕ) → suc a < suc b → a < b
sooner a b lt = omega arith

both : (a b c d : ℕ) → a ≤ b → c ≤ d → a + c ≤ b + d
both a b c d h k = omega arith

left_less : (a b c d : ℕ) → a < b → c ≤ d → a + c < b + d
left_less a b c d h k = omega arith

right_less : (a b c d : ℕ) → a ≤ b → c < d → a + c < b + d
right_less a b c d h k = omega arith

pub same : (n : ℕ) → n ≤ n
same n = omega arith

-- one item is set to what counts no more
pub total_set : {X : Type 0} (f : X → ℕ) (xs : List X) (i : ℕ) (y d : X) → f y ≤ f (slice_index_or xs i d)
    → total f (slice_set xs i y) ≤ total f xs
unfolding total
total_set f [] i y d h = same 0
total_set f (x ∷ xs) zero y d h = both (f y) (f x) (total f xs) (total f xs) h (same (total f xs))
total_set f (x ∷ xs) (suc i) y d h = both (f x) (f x) (total f (slice_set xs i y)) (total f xs) (same (f x)) (total_set f xs i y d h)

-- and to what counts less than what stood there, which was something
pub total_less : {X : Type 0} (f : X → ℕ) (xs : List X) (i : ℕ) (y d : X) → f d ≡ 0 → f y < f (slice_index_or xs i d)
    → total f (slice_set xs i y) < total f xs
unfolding total
total_less f [] i y d none h = absurd (never (f y) (subst (λ (n : ℕ). f y < n) none h))
total_less f (x ∷ xs) zero y d none h = left_less (f y) (f x) (total f xs) (total f xs) h (same (total f xs))
total_less f (x ∷ xs) (suc i) y d none h =
    right_less (f x) (f x) (total f (slice_set xs i y)) (total f xs) (same (f x)) (total_less f xs i y d none h)

pub total_less_in : {X : Type 0} (f : X → ℕ) (xs : List X) (i : ℕ) (y d : X) → i < length xs → f y < f (slice_index_or xs i d)
    → total f (slice_set xs i y) < total f xs
unfolding total
total_less_in f [] i y d lt h = absurd (never i lt)
total_less_in f (x ∷ xs) zero y d lt h = left_less (f y) (f x) (total f xs) (total f xs) h (same (total f xs))
total_less_in f (x ∷ xs) (suc i) y d lt h =
    right_less (f x) (f x) (total f (slice_set xs i y)) (total f xs) (same (f x)) (total_less_in f xs i y d (sooner i (length xs) lt) h)

-- each part of a sum counts no more
pub upto_most : (n : ℕ) (f g : ℕ → ℕ) → ((k : ℕ) → f k ≤ g k) → upto n f ≤ upto n g
unfolding upto
upto_most zero f g all = same 0
upto_most (suc n) f g all = both (f n) (g n) (upto n f) (upto n g) (all n) (upto_most n f g all)

-- and one of them less
pub upto_less : (n : ℕ) (f g : ℕ → ℕ) (i : ℕ) → i < n → ((k : ℕ) → f k ≤ g k) → f i < g i → upto n f < upto n g
unfolding upto
upto_less zero f g i lt all less = absurd (never i lt)
upto_less (suc n) f g i lt all less = by (nat_eq i n) refl (λ h. upto_less n f g i h all less)
  where
    at : (a b : ℕ) → nat_eq a b ≡ true → a ≡ b
    at a b e = grind arith

    below : (a b : ℕ) → nat_eq a b ≡ false → a < suc b → a < b
    below a b e lt = grind arith

    by : (t : Bool) → nat_eq i n ≡ t → (i < n → upto n f < upto n g) → f n + upto n f < g n + upto n g
    by true is more =
        left_less (f n) (g n) (upto n f) (upto n g) (subst (λ (k : ℕ). f k < g k) (at i n is) less) (upto_most n f g all)
    by false is more = right_less (f n) (g n) (upto n f) (upto n g) (all n) (more (below i n is lt))

-- one place is set to what counts no more, by any count
pub set_most : {X : Type 0} (f : X → ℕ) (xs : List X) (i j : ℕ) (y d : X) → f y ≤ f (slice_index_or xs i d)
    → f (slice_index_or (slice_set xs i y) j d) ≤ f (slice_index_or xs j d)
set_most f [] i j y d h = same (f d)
set_most f (x ∷ xs) zero zero y d h = h
set_most f (x ∷ xs) zero (suc j) y d h = same (f (slice_index_or xs j d))
set_most f (x ∷ xs) (suc i) zero y d h = same (f x)
set_most f (x ∷ xs) (suc i) (suc j) y d h = set_most f xs i j y d h

-- one more item
pub length_more : {X : Type 0} (xs : List X) (x : X) → length (xs ++ x ∷ []) ≡ suc (length xs)
length_more [] x = refl
length_more (y ∷ ys) x = ap suc (length_more ys x)
