-- The documents that match, counted and shown.
use Rattle.std.proofs.Common.{◌≡◌, ℕ, zero, suc, ◌+◌, ◌<◌, ◌≤◌, Bool, true, false, cond, List, [], ◌∷◌, ◌++◌, Option, Some, None, length, filter, map, take, get_or, refl, sym, ap, ◌∙◌, arith}
use Rattle.std.proofs.lemmas.List.{append-nil, length-append, map_more, take_all, take_at}
use Rattle.std.proofs.lemmas.List.Elements.{filter-append}

module _ {X Y : Type 0} (f : X → Y) (p : Y → Bool) where
  filter_mapped : (xs : List X) → length (filter (λ x. p (f x)) xs) ≡ length (filter p (map f xs))
  filter_mapped [] = refl
  filter_mapped (x ∷ xs) = by (p (f x)) (filter_mapped xs)
    where
      by : (b : Bool) → length (filter (λ x. p (f x)) xs) ≡ length (filter p (map f xs))
          → length (cond b (x ∷ filter (λ x. p (f x)) xs) (filter (λ x. p (f x)) xs)) ≡ length (cond b (f x ∷ filter p (map f xs)) (filter p (map f xs)))
      by true rest = ap suc rest
      by false rest = rest

  -- as many items pass as there are among what f gives
  pub counted : (xs : List X) (ys : List Y) → map f xs ≡ ys → length (filter (λ x. p (f x)) xs) ≡ length (filter p ys)
  counted xs ys is = filter_mapped xs ∙ ap (λ l. length (filter p l)) is

-- the first n of some items and one more are those of the first n and one more
first_of_more : {X : Type 0} (n : ℕ) (xs ys : List X) → take n (take n xs ++ ys) ≡ take n (xs ++ ys)
first_of_more zero xs ys = refl
first_of_more (suc n) [] ys = refl
first_of_more (suc n) (x ∷ xs) ys = ap (λ l. x ∷ l) (first_of_more n xs ys)

pub shown_more : {X Y : Type 0} (f : X → Y) (p : Y → Bool) (n : ℕ) (xs : List X) (i : ℕ) (x : X) (old new : List Y) → i < length xs → x ≡ get_or xs i x → old ≡ take n (filter p (map f (take i xs)))
    → new ≡ take n (old ++ filter p (f x ∷ [])) → new ≡ take n (filter p (map f (take (i + 1) xs)))
shown_more f p n xs i x old new within is shown next =
    next ∙ ap (λ l. take n (l ++ filter p (f x ∷ []))) shown ∙ first_of_more n (filter p (map f (take i xs))) (filter p (f x ∷ []))
    ∙ ap (take n) (sym (filter-append p (map f (take i xs)) (f x ∷ [])) ∙ ap (filter p) (ap (λ y. map f (take i xs) ++ f y ∷ []) is ∙ sym (map_more f xs i x within)))

-- n items at most, with one more that may pass
module _ {X : Type 0} (p : X → Bool) (n : ℕ) (xs : List X) (x : X) (few : length xs ≤ n) where
  pub shown_full : n ≤ length xs → xs ≡ take n (xs ++ filter p (x ∷ []))
  shown_full full = sym (take_at xs (filter p (x ∷ [])) n (omega arith))

  pub shown_unlike : p x ≡ false → xs ≡ take n (xs ++ filter p (x ∷ []))
  shown_unlike fails = sym (ap (λ b. take n (xs ++ cond b (x ∷ []) [])) fails ∙ ap (take n) (append-nil xs) ∙ take_all n xs few)

  pub shown_one : length xs < n → p x ≡ true → xs ++ x ∷ [] ≡ take n (xs ++ filter p (x ∷ []))
  shown_one room passes = sym (ap (λ b. take n (xs ++ cond b (x ∷ []) [])) passes ∙ take_all n (xs ++ x ∷ []) (omega (arith, length-append xs (x ∷ []))))
