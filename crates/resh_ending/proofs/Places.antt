-- What stands at a place of a list, of which one place is set.
use Rattle.std.proofs.Common.{◌≡◌, ◌<◌, ◌≤◌, ◌⊎◌, inl, inr, ℕ, zero, suc, ◌+◌, Bool, true, false, List, [], ◌∷◌, length, map, replicate, refl, sym, ap, ◌∙◌, slice_index_or, slice_set}
use native.Mathlib.Omega.{arith}

later : (a b : ℕ) → a < b → suc a < suc b
later a b lt = omega arith

sooner : (a b : ℕ) → suc a < suc b → a < b
sooner a b lt = omega arith

first : (b : ℕ) → 0 < suc b
first b = omega arith

-- what has a property that the default lacks stands in the list
pub within : {X : Type 0} (f : X → Bool) (xs : List X) (i : ℕ) (d : X) → f d ≡ false → f (slice_index_or xs i d) ≡ true
    → i < length xs
within f [] i d none is = cc
within f (x ∷ xs) zero d none is = first (length xs)
within f (x ∷ xs) (suc i) d none is = later i (length xs) (within f xs i d none is)

pub set_here : {X : Type 0} (xs : List X) (i : ℕ) (x d : X) → i < length xs → slice_index_or (slice_set xs i x) i d ≡ x
set_here [] i x d lt = absurd (never i lt)
  where
    never : (k : ℕ) → k < 0 → ⊥
    never k lt = omega arith
set_here (y ∷ ys) zero x d lt = refl
set_here (y ∷ ys) (suc i) x d lt = set_here ys i x d (sooner i (length ys) lt)

-- a place is set, or it isn't in the list
pub set_or_none : {X : Type 0} (xs : List X) (i : ℕ) (x d : X)
    → (slice_index_or (slice_set xs i x) i d ≡ x) ⊎ ((slice_index_or xs i d ≡ d) × (slice_set xs i x ≡ xs))
set_or_none [] i x d = inr (refl, refl)
set_or_none (y ∷ ys) zero x d = inl refl
set_or_none (y ∷ ys) (suc i) x d = by (set_or_none ys i x d)
  where
    by : (slice_index_or (slice_set ys i x) i d ≡ x) ⊎ ((slice_index_or ys i d ≡ d) × (slice_set ys i x ≡ ys))
        → (slice_index_or (slice_set ys i x) i d ≡ x) ⊎ ((slice_index_or ys i d ≡ d) × ((y ∷ slice_set ys i x) ≡ (y ∷ ys)))
    by (inl e) = inl e
    by (inr e) = inr (e.0, ap (λ t. y ∷ t) e.1)

-- one place is set to what looks the same
pub set_alike : {X Y : Type 0} (g : X → Y) (xs : List X) (i j : ℕ) (y d : X) → g y ≡ g (slice_index_or xs i d)
    → g (slice_index_or (slice_set xs i y) j d) ≡ g (slice_index_or xs j d)
set_alike g [] i j y d e = refl
set_alike g (x ∷ xs) zero zero y d e = e
set_alike g (x ∷ xs) zero (suc j) y d e = refl
set_alike g (x ∷ xs) (suc i) zero y d e = refl
set_alike g (x ∷ xs) (suc i) (suc j) y d e = set_alike g xs i j y d e

-- one place is set to what has a property
pub set_true : {X : Type 0} (g : X → Bool) (xs : List X) (i j : ℕ) (y d : X) → g y ≡ true
    → g (slice_index_or xs j d) ≡ true → g (slice_index_or (slice_set xs i y) j d) ≡ true
set_true g [] i j y d e is = is
set_true g (x ∷ xs) zero zero y d e is = e
set_true g (x ∷ xs) zero (suc j) y d e is = is
set_true g (x ∷ xs) (suc i) zero y d e is = is
set_true g (x ∷ xs) (suc i) (suc j) y d e is = set_true g xs i j y d e is

-- the same where what is set has it only at its own place
pub set_kept : {X : Type 0} (g : X → Bool) (xs : List X) (i j : ℕ) (y d : X)
    → (g (slice_index_or xs i d) ≡ true → g y ≡ true)
    → g (slice_index_or xs j d) ≡ true → g (slice_index_or (slice_set xs i y) j d) ≡ true
set_kept g [] i j y d e is = is
set_kept g (x ∷ xs) zero zero y d e is = e is
set_kept g (x ∷ xs) zero (suc j) y d e is = is
set_kept g (x ∷ xs) (suc i) zero y d e is = is
set_kept g (x ∷ xs) (suc i) (suc j) y d e is = set_kept g xs i j y d e is

pub map_at : {X Y : Type 0} (f : X → Y) (xs : List X) (i : ℕ) (d : X) → slice_index_or (map f xs) i (f d) ≡ f (slice_index_or xs i d)
map_at f [] i d = refl
map_at f (x ∷ xs) zero d = refl
map_at f (x ∷ xs) (suc i) d = map_at f xs i d

pub length-map : {X Y : Type 0} (f : X → Y) (xs : List X) → length (map f xs) ≡ length xs
length-map f [] = refl
length-map f (x ∷ xs) = ap suc (length-map f xs)

pub length-replicate : {X : Type 0} (x : X) (n : ℕ) → length (replicate n x) ≡ n
length-replicate x zero = refl
length-replicate x (suc n) = ap suc (length-replicate x n)

pub replicate_at : {X : Type 0} (n i : ℕ) (x d : X) → i < n → slice_index_or (replicate n x) i d ≡ x
replicate_at zero i x d lt = absurd (never i lt)
  where
    never : (k : ℕ) → k < 0 → ⊥
    never k lt = omega arith
replicate_at (suc n) zero x d lt = refl
replicate_at (suc n) (suc i) x d lt = replicate_at n i x d (sooner i n lt)
