-- Lists that grow by one.
use Rattle.std.proofs.Common.{◌≡◌, ℕ, zero, suc, ◌+◌, Some, slice_get, slice_index_or, slice_set, List, [], ◌∷◌, ◌++◌, map, refl, ap, ◌∙◌, sym, append_assoc, zero-add}
use Rattle.std.specs.List.{flat_map, range_with_len}
use Rattle.std.proofs.lemmas.List.{map-set}
use Rattle.std.proofs.lemmas.List.FromFn.{map-range_with_len_more}

pub append_none : {X : Type 0} (xs : List X) → xs ++ [] ≡ xs
append_none [] = refl
append_none (x ∷ xs) = ap (λ t. x ∷ t) (append_none xs)

pub flat_append : {X Y : Type 0} (f : X → List Y) (xs ys : List X) → flat_map f (xs ++ ys) ≡ flat_map f xs ++ flat_map f ys
flat_append f [] ys = refl
flat_append f (x ∷ xs) ys = ap (λ t. f x ++ t) (flat_append f xs ys) ∙ sym (append_assoc (f x) (flat_map f xs) (flat_map f ys))

pub map_same : {X : Type 0} (xs : List X) → map (λ x. x) xs ≡ xs
map_same [] = refl
map_same (x ∷ xs) = ap (λ t. x ∷ t) (map_same xs)

pub range_more : (a n : ℕ) → range_with_len a (n + 1) ≡ range_with_len a n ++ (a + n) ∷ []
range_more a n =
    sym (map_same (range_with_len a (n + 1))) ∙ map-range_with_len_more (λ x. x) a n (a + n) refl
    ∙ ap (λ t. t ++ (a + n) ∷ []) (map_same (range_with_len a n))

flat_one : {X : Type 0} (f : ℕ → List X) (n : ℕ) → flat_map f (n ∷ []) ≡ f n
flat_one f n = append_none (f n)

-- one more number
pub flat_more : {X : Type 0} (f : ℕ → List X) (n : ℕ)
    → flat_map f (range_with_len 0 (n + 1)) ≡ flat_map f (range_with_len 0 n) ++ f n
flat_more f n =
    ap (flat_map f) (range_more 0 n) ∙ flat_append f (range_with_len 0 n) ((0 + n) ∷ [])
    ∙ ap (λ t. flat_map f (range_with_len 0 n) ++ t) (flat_one f (0 + n) ∙ ap f (zero-add n))

-- one more of a list of values by number
pub each_more : {X : Type 0} (f : ℕ → X) (n : ℕ)
    → map f (range_with_len 0 (n + 1)) ≡ map f (range_with_len 0 n) ++ f n ∷ []
each_more f n = map-range_with_len_more f 0 n n (zero-add n)

-- a list behind another one, with one more value by number
pub behind_more : {X : Type 0} (f : ℕ → X) (n : ℕ) (x : X) (before now later : List X)
    → now ≡ before ++ map f (range_with_len 0 n) → later ≡ now ++ x ∷ [] → x ≡ f n
    → later ≡ before ++ map f (range_with_len 0 (n + 1))
behind_more f n x before now later so push is =
    push ∙ ap (λ t. t ++ x ∷ []) so ∙ append_assoc before (map f (range_with_len 0 n)) (x ∷ [])
    ∙ ap (λ y. before ++ (map f (range_with_len 0 n) ++ y ∷ [])) is
    ∙ ap (λ t. before ++ t) (sym (each_more f n))

index_of : {X Y : Type 0} (f : X → Y) (xs : List X) (i : ℕ) (x : X) (d : Y) → slice_get xs i ≡ Some x
    → slice_index_or (map f xs) i d ≡ f x
index_of f [] i x d h = cc
index_of f (y ∷ ys) zero x d h = let e : y ≡ x = cc in ap f e
index_of f (y ∷ ys) (suc i) x d h = index_of f ys i x d h

-- what is told of a list once one of its items has had its call
pub told_set : {X Y : Type 0} (f : X → Y) (next : Y → Y) (xs ys : List X) (i : ℕ) (x w : X) (d : Y) → slice_get xs i ≡ Some x
    → ys ≡ slice_set xs i w → f w ≡ next (f x) → map f ys ≡ slice_set (map f xs) i (next (slice_index_or (map f xs) i d))
told_set f next xs ys i x w d at is call =
    ap (map f) is ∙ map-set f xs i w
    ∙ ap (λ t. slice_set (map f xs) i t) (call ∙ ap next (sym (index_of f xs i x d at)))
