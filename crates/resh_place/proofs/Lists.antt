-- Lists: two without repetition that have the same members are the same in another order.
use Rattle.std.proofs.Common.{◌≡◌, ◌⊎◌, inl, inr, ⊎_elim, List, [], ◌∷◌, ◌++◌, sym, ap, subst, arith}
use Rattle.std.specs.Bool.{⊤}
use Rattle.std.proofs.lemmas.List.Elements.{Contains-append_cases, Contains-append_left, Contains-append_right}
use Rattle.std.proofs.lemmas.List.Sorted.{IsPermutation-cons, IsPermutation-middle, IsPermutation-refl, IsPermutation-sym, IsPermutation-trans}
use Rattle.std.specs.List.{Contains}
use Rattle.std.specs.List.Sorted.{IsPermutation}
use Rattle.resh_bag.proofs.Lists.{first_or_later, first_there, later_there}

pub no_member : {X : Type 0} (x : X) → Contains [] x → ⊥
no_member x (k, within, is) = absurd (omega arith)

module _ {X : Type 0} where
  -- no member stands twice
  abbrev pub NoRepeat : List X → Type 0
  NoRepeat [] = ⊤
  NoRepeat (x ∷ xs) = (Contains xs x → ⊥) × NoRepeat xs

  pub no_repeat_append : (xs ys : List X) → NoRepeat xs → NoRepeat ys → ((x : X) → Contains xs x → Contains ys x → ⊥) → NoRepeat (xs ++ ys)
  no_repeat_append [] ys a b apart = b
  no_repeat_append (x ∷ xs) ys a b apart = (
    λ c. ⊎_elim (λ k. a.0 k) (λ k. apart x (first_there x xs) k) (Contains-append_cases xs ys x c),
    no_repeat_append xs ys a.1 b (λ y here there. apart y (later_there x xs y here) there),
  )

  record Split (xs : List X) (x : X) : Type 0 where
    front : List X
    rest : List X
    is : xs ≡ front ++ x ∷ rest

  split_at : (xs : List X) (x : X) → Contains xs x → Split xs x
  split_at [] x c = absurd (no_member x c)
  split_at (y ∷ ys) x c = by (first_or_later y ys x c) (split_at ys x)
    where
      by : (y ≡ x) ⊎ Contains ys x → (Contains ys x → Split ys x) → Split (y ∷ ys) x
      by (inl same) rest = record { front = []; rest = ys; is = ap (λ z. z ∷ ys) same }
      by (inr there) rest = let s = rest there in record { front = y ∷ s.front; rest = s.rest; is = ap (λ zs. y ∷ zs) s.is }

  pub with_one : (front : List X) (x : X) (rest : List X) (y : X) → Contains (front ++ rest) y → Contains (front ++ x ∷ rest) y
  with_one front x rest y c =
      ⊎_elim (λ k. Contains-append_left front (x ∷ rest) y k) (λ k. Contains-append_right front (x ∷ rest) y (later_there x rest y k)) (Contains-append_cases front rest y c)

  pub that_one : (front : List X) (x : X) (rest : List X) → Contains (front ++ x ∷ rest) x
  that_one front x rest = Contains-append_right front (x ∷ rest) x (first_there x rest)

  one_or_other : (front : List X) (x : X) (rest : List X) (y : X) → Contains (front ++ x ∷ rest) y → (x ≡ y) ⊎ Contains (front ++ rest) y
  one_or_other front x rest y c =
      ⊎_elim (λ k. inr (Contains-append_left front rest y k))
      (λ k. ⊎_elim (λ same. inl same) (λ l. inr (Contains-append_right front rest y l)) (first_or_later x rest y k))
      (Contains-append_cases front (x ∷ rest) y c)

  without_one : (front : List X) (x : X) (rest : List X) → NoRepeat (front ++ x ∷ rest) → (Contains (front ++ rest) x → ⊥) × NoRepeat (front ++ rest)
  without_one [] x rest h = (h.0, h.1)
  without_one (y ∷ front) x rest h =
      let more = without_one front x rest h.1 in (
        λ c. ⊎_elim (λ same. h.0 (subst (λ z. Contains (front ++ x ∷ rest) z) (sym same) (that_one front x rest))) (λ l. more.0 l) (first_or_later y (front ++ rest) x c),
        (λ c. h.0 (with_one front x rest y c), more.1),
      )

  pub same_members : (xs ys : List X) → NoRepeat xs → NoRepeat ys → ((x : X) → Contains xs x → Contains ys x) → ((x : X) → Contains ys x → Contains xs x) → IsPermutation xs ys
  same_members [] [] a b to from = IsPermutation-refl []
  same_members [] (y ∷ ys) a b to from = absurd (no_member y (from y (first_there y ys)))
  same_members (x ∷ xs) ys a b to from =
      let s : Split ys x = split_at ys x (to x (first_there x xs)) in
      let apart = without_one s.front x s.rest (subst NoRepeat s.is b) in
      let to_others : (z : X) → Contains xs z → Contains (s.front ++ s.rest) z =
      λ z there. ⊎_elim (λ same. absurd (a.0 (subst (Contains xs) (sym same) there))) (λ l. l)
      (one_or_other s.front x s.rest z (subst (λ zs. Contains zs z) s.is (to z (later_there x xs z there)))) in
      let from_others : (z : X) → Contains (s.front ++ s.rest) z → Contains xs z =
      λ z there. ⊎_elim (λ same. absurd (apart.0 (subst (Contains (s.front ++ s.rest)) (sym same) there))) (λ l. l)
      (first_or_later x xs z (from z (subst (λ zs. Contains zs z) (sym s.is) (with_one s.front x s.rest z there)))) in
      let rest : IsPermutation xs (s.front ++ s.rest) = same_members xs (s.front ++ s.rest) a.1 apart.1 to_others from_others in
      subst (IsPermutation (x ∷ xs)) (sym s.is)
      (IsPermutation-trans (x ∷ xs) (x ∷ s.front ++ s.rest) (s.front ++ x ∷ s.rest) (IsPermutation-cons x xs (s.front ++ s.rest) rest)
      (IsPermutation-sym (s.front ++ x ∷ s.rest) (x ∷ s.front ++ s.rest) (IsPermutation-middle s.front x s.rest)))
