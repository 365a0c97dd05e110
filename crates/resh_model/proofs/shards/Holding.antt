-- The documents of a shard, gathered entry by entry, and the parts, gathered shard by shard.
use Rattle.std.proofs.Common.{◌≡◌, ℕ, ◌+◌, ◌<◌, Bool, true, false, cond, List, [], ◌∷◌, ◌++◌, length, filter, map, take, get_or, eqb, refl, sym, ap, ◌∙◌, arith}
use Rattle.std.proofs.lemmas.Bool.{eqb-true}
use Rattle.std.proofs.lemmas.List.{append-nil, map_more}
use Rattle.std.proofs.lemmas.List.Elements.{filter-append}
use Rattle.std.proofs.lemmas.List.FromFn.{map-range_with_len_more}
use Rattle.std.specs.List.{range_with_len}

-- what passes among what f gives of some items, and of one more
module _ {X Y : Type 0} (f : X → Y) (p : Y → Bool) (xs : List X) (i : ℕ) (x : X) (within : i < length xs) (is : x ≡ get_or xs i x) where
  one_more : filter p (map f (take (i + 1) xs)) ≡ filter p (map f (take i xs)) ++ cond (p (f x)) (f x ∷ []) []
  one_more = ap (filter p) (map_more f xs i x within ∙ ap (λ y. map f (take i xs) ++ f y ∷ []) (sym is)) ∙ filter-append p (map f (take i xs)) (f x ∷ [])

  pub passed_more : p (f x) ≡ true → (old new : List Y) → old ≡ filter p (map f (take i xs)) → new ≡ old ++ f x ∷ [] → new ≡ filter p (map f (take (i + 1) xs))
  passed_more passes old new so next = next ∙ ap (λ l. l ++ f x ∷ []) so ∙ ap (λ b. filter p (map f (take i xs)) ++ cond b (f x ∷ []) []) (sym passes) ∙ sym one_more

  pub failed_more : p (f x) ≡ false → (old : List Y) → old ≡ filter p (map f (take i xs)) → old ≡ filter p (map f (take (i + 1) xs))
  failed_more fails old so = so ∙ sym (append-nil (filter p (map f (take i xs)))) ∙ ap (λ b. filter p (map f (take i xs)) ++ cond b (f x ∷ []) []) (sym fails) ∙ sym one_more

-- what f gives of the numbers below n, and of n
pub next_of : {X : Type 0} (f : ℕ → X) (n : ℕ) (old new : List X) (x : X) → old ≡ map f (range_with_len 0 n) → x ≡ f n → new ≡ old ++ x ∷ [] → new ≡ map f (range_with_len 0 (n + 1))
next_of f n old new x so is next = next ∙ (λ i. so i ++ is i ∷ []) ∙ sym (map-range_with_len_more f 0 n n (omega arith))

-- numbers that differ test as different
pub unequal : (a b : ℕ) → (a ≡ b → ⊥) → eqb a b ≡ false
unequal a b n = by (eqb a b) refl
  where
    by : (r : Bool) → eqb a b ≡ r → r ≡ false
    by true e = absurd (n (eqb-true a b e))
    by false e = refl
