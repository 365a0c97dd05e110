-- What stands at a place of a list, and a place set.
use Rattle.std.proofs.Common.{◌≡◌, ℕ, zero, suc, List, [], ◌∷◌, Some, None, slice_get, slice_index_or, slice_set, refl, ap}

pub or_default : {X : Type 0} (xs : List X) (i : ℕ) (d : X) → slice_get xs i ≡ None → slice_index_or xs i d ≡ d
or_default [] i d e = refl
or_default (x ∷ xs) zero d e = cc
or_default (x ∷ xs) (suc i) d e = or_default xs i d e

pub or_item : {X : Type 0} (xs : List X) (i : ℕ) (d x : X) → slice_get xs i ≡ Some x → slice_index_or xs i d ≡ x
or_item [] i d x e = cc
or_item (y ∷ xs) zero d x e = cc
or_item (y ∷ xs) (suc i) d x e = or_item xs i d x e

pub set_past : {X : Type 0} (xs : List X) (i : ℕ) (x : X) → slice_get xs i ≡ None → slice_set xs i x ≡ xs
set_past [] i x e = refl
set_past (y ∷ xs) zero x e = cc
set_past (y ∷ xs) (suc i) x e = ap (λ l. y ∷ l) (set_past xs i x e)

-- a place set to what stands there
pub set_same : {X : Type 0} (xs : List X) (i : ℕ) (x y : X) → slice_get xs i ≡ Some x → y ≡ x → slice_set xs i y ≡ xs
set_same [] i x y e same = refl
set_same (z ∷ xs) zero x y e same = cc
set_same (z ∷ xs) (suc i) x y e same = ap (λ l. z ∷ l) (set_same xs i x y e same)
