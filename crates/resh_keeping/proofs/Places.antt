-- What holds at each place of a list.
use Rattle.std.proofs.Common.{◌≡◌, ◌<◌, ℕ, zero, suc, ◌+◌, List, [], ◌∷◌, length, map, refl, ap, sym, subst, slice_index_or, slice_set}
use Rattle.std.specs.List.{range_with_len}
use native.Mathlib.Omega.{arith}

later : (a b : ℕ) → a < b → suc a < suc b
later a b lt = omega arith

sooner : (a b : ℕ) → suc a < suc b → a < b
sooner a b lt = omega arith

first : (b : ℕ) → 0 < suc b
first b = omega arith

pub length-set : {X : Type 0} (xs : List X) (i : ℕ) (x : X) → length (slice_set xs i x) ≡ length xs
length-set [] i x = refl
length-set (y ∷ ys) zero x = refl
length-set (y ∷ ys) (suc i) x = ap suc (length-set ys i x)

-- with one place set
pub set_all : {X : Type 0} (P : ℕ → X → Type 0) (xs : List X) (i : ℕ) (x d : X) → (i < length xs → P i x)
    → ((k : ℕ) → k < length xs → P k (slice_index_or xs k d))
    → (k : ℕ) → k < length xs → P k (slice_index_or (slice_set xs i x) k d)
set_all P [] i x d here all k lt = all k lt
set_all P (y ∷ ys) zero x d here all zero lt = here (first (length ys))
set_all P (y ∷ ys) zero x d here all (suc k) lt = all (suc k) lt
set_all P (y ∷ ys) (suc i) x d here all zero lt = all zero lt
set_all P (y ∷ ys) (suc i) x d here all (suc k) lt =
    set_all (λ n z. P (suc n) z) ys i x d (λ l. here (later i (length ys) l)) (λ n l. all (suc n) (later n (length ys) l)) k
    (sooner k (length ys) lt)

pub length-each : {X : Type 0} (f : ℕ → X) (from many : ℕ) → length (map f (range_with_len from many)) ≡ many
length-each f from zero = refl
length-each f from (suc many) = ap suc (length-each f (from + 1) many)

shifted : (a b : ℕ) → a + 1 + b ≡ a + suc b
shifted a b = omega arith

unmoved : (a : ℕ) → a + 0 ≡ a
unmoved a = omega arith

-- in a list of something for each number
pub each_all : {X : Type 0} (P : ℕ → X → Type 0) (f : ℕ → X) (d : X) (from many : ℕ) → ((k : ℕ) → P k (f k))
    → (k : ℕ) → k < many → P (from + k) (slice_index_or (map f (range_with_len from many)) k d)
each_all P f d from zero all k lt = absurd (never k lt)
  where
    never : (k : ℕ) → k < 0 → ⊥
    never k lt = omega arith
each_all P f d from (suc many) all zero lt = subst (λ n. P n (f from)) (sym (unmoved from)) (all from)
each_all P f d from (suc many) all (suc k) lt =
    subst (λ n. P n (slice_index_or (map f (range_with_len (from + 1) many)) k d)) (shifted from k)
    (each_all P f d (from + 1) many all k (sooner k many lt))
