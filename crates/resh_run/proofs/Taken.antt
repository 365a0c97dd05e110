-- Lists that are read place by place.
use Rattle.std.proofs.Common.{◌≡◌, ℕ, zero, suc, ◌+◌, List, [], ◌∷◌, ◌++◌, map, take, slice_get, option_map, Option, Some, None, refl, sym, ap, ◌∙◌, arith}

module _ {X Y : Type 0} (f : X → Y) where
  more_by : (n : ℕ) (xs : List X) (y : Y) → Some y ≡ option_map f (slice_get xs n) → map f (take n xs) ++ y ∷ [] ≡ map f (take (suc n) xs)
  more_by zero [] y e = let clash : Some y ≡ None = e in absurd (cc)
  more_by zero (x ∷ xs) y e = let same : Some y ≡ Some (f x) = e in let here : y ≡ f x = cc in ap (λ (z : Y). z ∷ []) here
  more_by (suc n) [] y e = let clash : Some y ≡ None = e in absurd (cc)
  more_by (suc n) (x ∷ xs) y e = ap (λ (zs : List Y). f x ∷ zs) (more_by n xs y e)

  all_by : (n : ℕ) (xs : List X) → None ≡ option_map f (slice_get xs n) → map f (take n xs) ≡ map f xs
  all_by zero [] e = refl
  all_by zero (x ∷ xs) e = let clash : None ≡ Some (f x) = e in absurd (cc)
  all_by (suc n) [] e = refl
  all_by (suc n) (x ∷ xs) e = ap (λ (zs : List Y). f x ∷ zs) (all_by n xs e)

  -- one more was read
  pub one_more : (n : ℕ) (xs : List X) (ys zs : List Y) (y : Y) → ys ≡ map f (take n xs) → Some y ≡ option_map f (slice_get xs n) → zs ≡ ys ++ y ∷ [] → zs ≡ map f (take (n + 1) xs)
  one_more n xs ys zs y read here is =
      let next : n + 1 ≡ suc n = omega arith in
      is ∙ ap (λ (s : List Y). s ++ y ∷ []) read ∙ more_by n xs y here ∙ ap (λ (m : ℕ). map f (take m xs)) (sym next)

  -- all were read
  pub all_read : (n : ℕ) (xs : List X) (ys : List Y) → ys ≡ map f (take n xs) → None ≡ option_map f (slice_get xs n) → ys ≡ map f xs
  all_read n xs ys read end = read ∙ all_by n xs end

-- what is made of a value that is read off another
pub on_map : {X Y Z : Type 0} (f : X → Y) (g : Y → Z) (o : Option X) (p : Option Y) → p ≡ option_map f o → option_map g p ≡ option_map (λ x. g (f x)) o
on_map f g None p e = ap (option_map g) e
on_map f g (Some x) p e = ap (option_map g) e

-- one place more of a list
pub take_more : {X : Type 0} (n : ℕ) (xs : List X) (x : X) → slice_get xs n ≡ Some x → take (n + 1) xs ≡ take n xs ++ x ∷ []
take_more n xs x e = let next : n + 1 ≡ suc n = omega arith in ap (λ (m : ℕ). take m xs) next ∙ by n xs x e
  where
    by : {X : Type 0} (n : ℕ) (xs : List X) (x : X) → slice_get xs n ≡ Some x → take (suc n) xs ≡ take n xs ++ x ∷ []
    by zero [] x e = let clash : None ≡ Some x = e in absurd (cc)
    by zero (y ∷ ys) x e = let same : Some y ≡ Some x = e in let here : y ≡ x = cc in ap (λ z. z ∷ []) here
    by (suc n) [] x e = let clash : None ≡ Some x = e in absurd (cc)
    by (suc n) (y ∷ ys) x e = ap (λ zs. y ∷ zs) (by n ys x e)
