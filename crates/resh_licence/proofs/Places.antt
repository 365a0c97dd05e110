-- What stands at a place of a list, of which one place is set.
use Rattle.std.proofs.Common.{◌≡◌, ◌<◌, ℕ, zero, suc, ◌+◌, ◌*◌, List, [], ◌∷◌, ◌++◌, length, map, replicate, refl, ap, sym, ◌∙◌, subst, slice_index_or, slice_set}
use Rattle.std.specs.List.{flat_map, range_with_len}
use native.Mathlib.Omega.{arith}
use Rattle.resh_cells.specs.Cells.{set_in}

later : (a b : ℕ) → a < b → suc a < suc b
later a b lt = omega arith

sooner : (a b : ℕ) → suc a < suc b → a < b
sooner a b lt = omega arith

first : (b : ℕ) → 0 < suc b
first b = omega arith

never : (k : ℕ) → k < 0 → ⊥
never k lt = omega arith

pub length-set : {X : Type 0} (xs : List X) (i : ℕ) (x : X) → length (slice_set xs i x) ≡ length xs
length-set [] i x = refl
length-set (y ∷ ys) zero x = refl
length-set (y ∷ ys) (suc i) x = ap suc (length-set ys i x)

pub length-map : {X Y : Type 0} (f : X → Y) (xs : List X) → length (map f xs) ≡ length xs
length-map f [] = refl
length-map f (x ∷ xs) = ap suc (length-map f xs)

pub length-replicate : {X : Type 0} (x : X) (n : ℕ) → length (replicate n x) ≡ n
length-replicate x zero = refl
length-replicate x (suc n) = ap suc (length-replicate x n)

-- a place is set to what is related to what stood there
pub set_by : {X : Type 0} (P : X → X → Type 0) (xs : List X) (i j : ℕ) (y d : X) → ((x : X) → P x x)
    → (i ≡ j → P (slice_index_or xs i d) y) → P (slice_index_or xs j d) (slice_index_or (slice_set xs i y) j d)
set_by P [] i j y d same here = same d
set_by P (x ∷ xs) zero zero y d same here = here refl
set_by P (x ∷ xs) zero (suc j) y d same here = same (slice_index_or xs j d)
set_by P (x ∷ xs) (suc i) zero y d same here = same x
set_by P (x ∷ xs) (suc i) (suc j) y d same here = set_by P xs i j y d same (λ e. here (ap suc e))

-- and in a row of rows
pub rows_by : {X : Type 0} (P : X → X → Type 0) (rows : List (List X)) (r i s j : ℕ) (y d : X) → ((x : X) → P x x)
    → (r ≡ s → i ≡ j → P (slice_index_or (slice_index_or rows r []) i d) y)
    → P (slice_index_or (slice_index_or rows s []) j d) (slice_index_or (slice_index_or (set_in rows r i y) s []) j d)
rows_by P rows r i s j y d same here =
    set_by (λ a b. P (slice_index_or a j d) (slice_index_or b j d)) rows r s
    (slice_set (slice_index_or rows r []) i y) [] (λ row. same (slice_index_or row j d))
    (λ e. set_by P (slice_index_or rows r []) i j y d same (λ q. here e q))

-- each is changed to what is related to it
pub map_by : {X : Type 0} (P : X → X → Type 0) (f : X → X) (xs : List X) (j : ℕ) (d : X) → ((x : X) → P x x)
    → ((x : X) → P x (f x)) → P (slice_index_or xs j d) (slice_index_or (map f xs) j d)
map_by P f [] j d same each = same d
map_by P f (x ∷ xs) zero d same each = each x
map_by P f (x ∷ xs) (suc j) d same each = map_by P f xs j d same each

-- what has a property that the default lacks stands in the list
pub within : {X : Type 0} (P : X → Type 0) (xs : List X) (i : ℕ) (d : X) → (P d → ⊥) → P (slice_index_or xs i d)
    → i < length xs
within P [] i d none is = absurd (none is)
within P (x ∷ xs) zero d none is = first (length xs)
within P (x ∷ xs) (suc i) d none is = later i (length xs) (within P xs i d none is)

pub set_here : {X : Type 0} (xs : List X) (i : ℕ) (x d : X) → i < length xs → slice_index_or (slice_set xs i x) i d ≡ x
set_here [] i x d lt = absurd (never i lt)
set_here (y ∷ ys) zero x d lt = refl
set_here (y ∷ ys) (suc i) x d lt = set_here ys i x d (sooner i (length ys) lt)

-- of something for each number, and of the same again and again
pub each_has : {X : Type 0} (P : X → Type 0) (f : ℕ → X) (from many i : ℕ) (d : X) → P d → ((k : ℕ) → P (f k))
    → P (slice_index_or (map f (range_with_len from many)) i d)
each_has P f from zero i d none all = none
each_has P f from (suc many) zero d none all = all from
each_has P f from (suc many) (suc i) d none all = each_has P f (from + 1) many i d none all

pub same_has : {X : Type 0} (P : X → Type 0) (many i : ℕ) (x d : X) → P d → P x → P (slice_index_or (replicate many x) i d)
same_has P zero i x d none is = none
same_has P (suc many) zero x d none is = is
same_has P (suc many) (suc i) x d none is = same_has P many i x d none is

pub length-each : {X : Type 0} (f : ℕ → X) (from many : ℕ) → length (map f (range_with_len from many)) ≡ many
length-each f from zero = refl
length-each f from (suc many) = ap suc (length-each f (from + 1) many)

length-both : {X : Type 0} (xs ys : List X) → length (xs ++ ys) ≡ length xs + length ys
length-both [] ys = omega arith
length-both (x ∷ xs) ys = let e = length-both xs ys in omega arith

-- in the first of two lists, and in the second
in_first : {X : Type 0} (xs ys : List X) (j : ℕ) (d : X) → j < length xs → slice_index_or (xs ++ ys) j d ≡ slice_index_or xs j d
in_first [] ys j d lt = absurd (never j lt)
in_first (x ∷ xs) ys zero d lt = refl
in_first (x ∷ xs) ys (suc j) d lt = in_first xs ys j d (sooner j (length xs) lt)

in_second : {X : Type 0} (xs ys : List X) (n j : ℕ) (d : X) → n ≡ length xs + j → slice_index_or (xs ++ ys) n d ≡ slice_index_or ys j d
in_second [] ys n j d e = let same : n ≡ j = omega arith in ap (λ k. slice_index_or ys k d) same
in_second (x ∷ xs) ys zero j d e = absurd (off (length xs) j e)
  where
    off : (a b : ℕ) → 0 ≡ suc a + b → ⊥
    off a b e = omega arith
in_second (x ∷ xs) ys (suc n) j d e = in_second xs ys n j d (less n (length xs) j e)
  where
    less : (n a b : ℕ) → suc n ≡ suc a + b → n ≡ a + b
    less n a b e = omega arith

unmoved : (a : ℕ) → a + 0 ≡ a
unmoved a = omega arith

shifted : (a b : ℕ) → a + 1 + b ≡ a + suc b
shifted a b = omega arith

row_first : (w j : ℕ) → 0 * w + j ≡ j
row_first w j = omega arith

row_later : (i w j n : ℕ) → n ≡ w → suc i * w + j ≡ n + (i * w + j)
row_later i w j n e = omega arith

-- lists of one length, one behind the other
pub length-rows : {X : Type 0} (f : ℕ → List X) (w from many : ℕ) → ((k : ℕ) → length (f k) ≡ w)
    → length (flat_map f (range_with_len from many)) ≡ many * w
length-rows f w from zero all = omega arith
length-rows f w from (suc many) all =
    let rest = length-rows f w (from + 1) many all in
    let here = all from in
    let both = length-both (f from) (flat_map f (range_with_len (from + 1) many)) in
    omega arith

pub rows_at : {X : Type 0} (f : ℕ → List X) (w from many i j : ℕ) (d : X) → ((k : ℕ) → length (f k) ≡ w) → i < many → j < w
    → slice_index_or (flat_map f (range_with_len from many)) (i * w + j) d ≡ slice_index_or (f (from + i)) j d
rows_at f w from zero i j d all lt in_row = absurd (never i lt)
rows_at f w from (suc many) zero j d all lt in_row =
    let rest = flat_map f (range_with_len (from + 1) many) in
    ap (λ n. slice_index_or (f from ++ rest) n d) (row_first w j)
    ∙ (in_first (f from) rest j d (subst (λ n. j < n) (sym (all from)) in_row)
    ∙ ap (λ n. slice_index_or (f n) j d) (sym (unmoved from)))
rows_at f w from (suc many) (suc i) j d all lt in_row =
    in_second (f from) (flat_map f (range_with_len (from + 1) many)) (suc i * w + j) (i * w + j) d
    (row_later i w j (length (f from)) (all from))
    ∙ (rows_at f w (from + 1) many i j d all (sooner i many lt) in_row
    ∙ ap (λ n. slice_index_or (f n) j d) (shifted from i))

pub each_at : {X : Type 0} (f : ℕ → X) (from many i : ℕ) (d : X) → i < many
    → slice_index_or (map f (range_with_len from many)) i d ≡ f (from + i)
each_at f from zero i d lt = absurd (never i lt)
each_at f from (suc many) zero d lt = ap f (sym (unmoved from))
each_at f from (suc many) (suc i) d lt = each_at f (from + 1) many i d (sooner i many lt) ∙ ap f (shifted from i)
