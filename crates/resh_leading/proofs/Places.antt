-- What is said of each place of a list before and after one place is set, or all are mapped.
use Rattle.std.proofs.Common.{◌≡◌, ◌<◌, ◌≤◌, ℕ, zero, suc, ◌+◌, Bool, true, false, cond, List, [], ◌∷◌, length, map, filter, refl, slice_index_or, slice_set, arith}
use Rattle.resh_cells.specs.Cells.{no_link, set_in}
use Rattle.resh_cells.specs.declared.cluster.LinkCell.{LinkCell}
use Rattle.resh_rounds.specs.Sums.{upto}

sooner : (a b : ℕ) → suc a < suc b → a < b
sooner a b lt = omega arith

pub set_pair : {X : Type 0} (P : ℕ → X → X → Type 0) (xs : List X) (i : ℕ) (y d : X) → ((k : ℕ) (x : X) → P k x x)
    → P i (slice_index_or xs i d) y → (k : ℕ) → P k (slice_index_or xs k d) (slice_index_or (slice_set xs i y) k d)
set_pair P [] i y d same here k = same k d
set_pair P (x ∷ xs) zero y d same here zero = here
set_pair P (x ∷ xs) zero y d same here (suc k) = same (suc k) (slice_index_or xs k d)
set_pair P (x ∷ xs) (suc i) y d same here zero = same zero x
set_pair P (x ∷ xs) (suc i) y d same here (suc k) = set_pair (λ n. P (suc n)) xs i y d (λ n. same (suc n)) here k

-- one link of all
pub set_link : (P : ℕ → ℕ → LinkCell → LinkCell → Type 0) (links : List (List LinkCell)) (r d : ℕ) (cell : LinkCell)
    → ((i j : ℕ) (c : LinkCell) → P i j c c) → P r d (slice_index_or (slice_index_or links r []) d no_link) cell → (i j : ℕ)
    → P i j (slice_index_or (slice_index_or links i []) j no_link) (slice_index_or (slice_index_or (set_in links r d cell) i []) j no_link)
set_link P links r d cell same here =
    set_pair (λ i (row : List LinkCell) (later : List LinkCell). (j : ℕ) → P i j (slice_index_or row j no_link) (slice_index_or later j no_link))
    links r (slice_set (slice_index_or links r []) d cell) [] (λ i row j. same i j (slice_index_or row j no_link))
    (set_pair (P r) (slice_index_or links r []) d cell no_link (same r) here)

pub map_pair : {X : Type 0} (P : X → X → Type 0) (f : X → X) (xs : List X) (d : X) → P d d → ((x : X) → P x (f x)) → (k : ℕ)
    → P (slice_index_or xs k d) (slice_index_or (map f xs) k d)
map_pair P f [] d none each k = none
map_pair P f (x ∷ xs) d none each zero = each x
map_pair P f (x ∷ xs) d none each (suc k) = map_pair P f xs d none each k

-- all links of a recipient
pub map_links : (P : LinkCell → LinkCell → Type 0) (f : LinkCell → LinkCell) (links : List (List LinkCell)) (r : ℕ)
    → ((c : LinkCell) → P c c) → ((c : LinkCell) → P c (f c)) → (i j : ℕ)
    → P (slice_index_or (slice_index_or links i []) j no_link)
    (slice_index_or (slice_index_or (slice_set links r (map f (slice_index_or links r []))) i []) j no_link)
map_links P f links r same each =
    set_pair (λ i (row : List LinkCell) (later : List LinkCell). (j : ℕ) → P (slice_index_or row j no_link) (slice_index_or later j no_link))
    links r (map f (slice_index_or links r [])) [] (λ i row j. same (slice_index_or row j no_link))
    (map_pair P f (slice_index_or links r []) no_link (same no_link) each)

pub mapped_at : {X : Type 0} (f : X → X) (xs : List X) (k : ℕ) (d : X) → k < length xs
    → slice_index_or (map f xs) k d ≡ f (slice_index_or xs k d)
mapped_at f [] k d lt = absurd (never k lt)
  where
    never : (k : ℕ) → k < 0 → ⊥
    never k lt = omega arith
mapped_at f (x ∷ xs) zero d lt = refl
mapped_at f (x ∷ xs) (suc k) d lt = mapped_at f xs k d (sooner k (length xs) lt)

-- what passes is no more
pub filter_most : {X : Type 0} (p : X → Bool) (xs : List X) → length (filter p xs) ≤ length xs
filter_most p [] = none
  where
    none : 0 ≤ 0
    none = omega arith
filter_most p (x ∷ xs) = by (p x) (filter_most p xs)
  where
    by : (t : Bool) → length (filter p xs) ≤ length xs → length (cond t (x ∷ filter p xs) (filter p xs)) ≤ suc (length xs)
    by true le = omega (arith, le)
    by false le = omega (arith, le)

-- each part of a sum counts no more
pub upto_within : (n : ℕ) (f g : ℕ → ℕ) → ((k : ℕ) → k < n → f k ≤ g k) → upto n f ≤ upto n g
unfolding upto
upto_within zero f g all = omega arith
upto_within (suc n) f g all = both (f n) (g n) (upto n f) (upto n g) (all n (last n)) (upto_within n f g (λ k lt. all k (more k n lt)))
  where
    last : (n : ℕ) → n < suc n
    last n = omega arith

    more : (k n : ℕ) → k < n → k < suc n
    more k n lt = omega arith

    both : (a b c d : ℕ) → a ≤ b → c ≤ d → a + c ≤ b + d
    both a b c d h k = omega arith
