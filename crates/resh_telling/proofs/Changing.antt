-- The cells of one recipient, changed one after another.
use Rattle.std.proofs.Common.{◌≡◌, ℕ, zero, suc, List, [], ◌∷◌, ◌++◌, map, take, Some, None, refl, sym, ap, append_assoc, append-nil, ◌∙◌}
use Rattle.std.specs.List.{flat_map, slice_get}
use Rattle.std.specs.Prelude.{slice_index_or, slice_set}

-- the cell at a place, and the one that stands for it where none is
pub or_item : {X : Type 0} (xs : List X) (i : ℕ) (d x : X) → slice_get xs i ≡ Some x → slice_index_or xs i d ≡ x
or_item [] i d x there = cc
or_item (y ∷ xs) zero d x there = cc
or_item (y ∷ xs) (suc i) d x there = or_item xs i d x there

pub or_default : {X : Type 0} (xs : List X) (i : ℕ) (d : X) → slice_get xs i ≡ None → slice_index_or xs i d ≡ d
or_default [] i d none = refl
or_default (x ∷ xs) zero d none = cc
or_default (x ∷ xs) (suc i) d none = or_default xs i d none

-- a row whose first cells are changed
abbrev pub partly : {X : Type 0} → (X → X) → ℕ → List X → List X
partly f place [] = []
partly f zero (x ∷ row) = x ∷ row
partly f (suc place) (x ∷ row) = f x ∷ partly f place row

pub partly_none : {X : Type 0} (f : X → X) (row : List X) → partly f 0 row ≡ row
partly_none f [] = refl
partly_none f (x ∷ row) = refl

-- the cell behind them is as it was
pub partly_at : {X : Type 0} (f : X → X) (row : List X) (place : ℕ) → slice_get (partly f place row) place ≡ slice_get row place
partly_at f [] place = refl
partly_at f (x ∷ row) zero = refl
partly_at f (x ∷ row) (suc place) = partly_at f row place

-- with the next cell changed too
pub partly_next : {X : Type 0} (f : X → X) (row : List X) (place : ℕ) (x y : X) → slice_get (partly f place row) place ≡ Some x → y ≡ f x
    → slice_set (partly f place row) place y ≡ partly f (suc place) row
partly_next f [] place x y there is = refl
partly_next f (z ∷ []) zero x y there is = cc
partly_next f (z ∷ w ∷ row) zero x y there is = cc
partly_next f (z ∷ row) (suc place) x y there is = ap (λ r. f z ∷ r) (partly_next f row place x y there is)

-- where no cell is behind them, all are changed
pub partly_all : {X : Type 0} (f : X → X) (row : List X) (place : ℕ) → slice_get (partly f place row) place ≡ None → partly f place row ≡ map f row
partly_all f [] place is = refl
partly_all f (x ∷ row) zero is = cc
partly_all f (x ∷ row) (suc place) is = ap (λ r. f x ∷ r) (partly_all f row place is)

-- with the cell at a place, what the cells before it put out is longer
pub out_next : {X A : Type 0} (f : X → List A) (row : List X) (place : ℕ) (x : X) → slice_get row place ≡ Some x
    → flat_map f (take place row) ++ f x ≡ flat_map f (take (suc place) row)
out_next f [] place x there = cc
out_next f (y ∷ row) zero x there = let same : x ≡ y = cc in rw same (sym (append-nil (f y)))
out_next f (y ∷ row) (suc place) x there = append_assoc (f y) (flat_map f (take place row)) (f x) ∙ ap (λ more. f y ++ more) (out_next f row place x there)

-- where no cell is behind them, they are all
pub all_before : {X : Type 0} (row : List X) (place : ℕ) → slice_get row place ≡ None → take place row ≡ row
all_before [] zero there = refl
all_before [] (suc place) there = refl
all_before (x ∷ row) zero there = cc
all_before (x ∷ row) (suc place) there = ap (λ rest. x ∷ rest) (all_before row place there)

-- a loop that changes a row cell by cell
pub ruleset changes = (partly_none, partly_next, partly_all)

-- a loop that also gathers what the cells put out
pub ruleset gathers = (partly_none, partly_next, partly_all, partly_at, out_next, all_before)
