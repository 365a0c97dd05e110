-- Lists: counts by a number of each item, and the first items of lists in order.
use Rattle.std.proofs.Common.{◌≡◌, ◌≢◌, ◌<◌, ◌+◌, ◌==◌, ◌||◌, ◌⊎◌, inl, inr, ⊎_elim, ℕ, zero, suc, Bool, true, false, cond, List, [], ◌∷◌, ◌++◌, length, filter, map, find, take, Some, refl, sym, ap, subst, ◌∙◌, arith, Less}
use Rattle.std.proofs.lemmas.Bool.{eqb-true}
use Rattle.std.proofs.lemmas.Bool.Decides.{eqb_tells}
use Rattle.std.specs.List.{AllByRecursion, Contains, range_with_len}
use Rattle.std.specs.List.Sorted.{IsStrictlySortedBy}
use Rattle.std.specs.declared.cmp.Ordering.{Ordering}
use Rattle.resh_bag.specs.Parts.{is_among, total}
use Rattle.resh_bag.proofs.Lists.{first_or_later, first_there, later_there}

-- what is found in a list
pub find_there : {X : Type 0} (p : X → Bool) (xs : List X) (x : X) → find p xs ≡ Some x → Contains xs x × (p x ≡ true)
find_there p [] x e = cc
find_there {X} p (y ∷ ys) x e = by (λ h. find_there p ys x h) (p y) refl e
  where
    by : (find p ys ≡ Some x → Contains ys x × (p x ≡ true)) → (b : Bool) → p y ≡ b → cond b (Some y) (find p ys) ≡ Some x → Contains (y ∷ ys) x × (p x ≡ true)
    by onward true f h = let same : y ≡ x = cc in (subst (Contains (y ∷ ys)) same (first_there y ys), subst (λ z. p z ≡ true) same f)
    by onward false f h = let w = onward h in (later_there y ys x w.0, w.1)

-- the numbers of a list
pub among_there : (ns : List ℕ) (n : ℕ) → is_among ns n ≡ true → Contains ns n
among_there [] n e = cc
among_there (m ∷ ms) n e = by (λ h. among_there ms n h) (m == n) refl e
  where
    by : (is_among ms n ≡ true → Contains ms n) → (b : Bool) → (m == n) ≡ b → (b || is_among ms n) ≡ true → Contains (m ∷ ms) n
    by onward true f h = subst (Contains (m ∷ ms)) (eqb-true m n f) (first_there m ms)
    by onward false f h = later_there m ms n (onward h)

pub there_among : (ns : List ℕ) (n : ℕ) → Contains ns n → is_among ns n ≡ true
there_among [] n (k, within, is) = absurd (omega (arith, within))
there_among (m ∷ ms) n there = by (first_or_later m ms n there) (λ later. there_among ms n later)
  where
    same : (a b : ℕ) → a ≡ b → (a == b) ≡ true
    same a b e = ⊎_elim (λ k. k.0) (λ k. absurd (k.1 e)) (eqb_tells a b)

    or_true : (b : Bool) → (b || true) ≡ true
    or_true true = refl
    or_true false = refl

    by : (m ≡ n) ⊎ Contains ms n → (Contains ms n → is_among ms n ≡ true) → ((m == n) || is_among ms n) ≡ true
    by (inl e) onward = ap (λ b. b || is_among ms n) (same m n e)
    by (inr k) onward = ap (λ b. (m == n) || b) (onward k) ∙ or_true (m == n)

pub filter_mapped : {X Y : Type 0} (p : Y → Bool) (f : X → Y) (xs : List X) → filter p (map f xs) ≡ map f (filter (λ x. p (f x)) xs)
filter_mapped p f [] = refl
filter_mapped p f (x ∷ xs) = by (p (f x)) (filter_mapped p f xs)
  where
    by : (b : Bool) → filter p (map f xs) ≡ map f (filter (λ x. p (f x)) xs) → cond b (f x ∷ filter p (map f xs)) (filter p (map f xs)) ≡ map f (cond b (x ∷ filter (λ x. p (f x)) xs) (filter (λ x. p (f x)) xs))
    by true rest = ap (λ l. f x ∷ l) rest
    by false rest = rest

-- one more number in a row
range_more : (from n : ℕ) → range_with_len from (suc n) ≡ range_with_len from n ++ (from + n) ∷ []
range_more from zero = let same : from ≡ from + 0 = omega arith in ap (λ k. k ∷ []) same
range_more from (suc n) = let same : from + 1 + n ≡ from + suc n = omega arith in ap (λ l. from ∷ l) (range_more (from + 1) n ∙ ap (λ k. range_with_len (from + 1) n ++ k ∷ []) same)

pub range_next : (n : ℕ) → range_with_len 0 (n + 1) ≡ range_with_len 0 n ++ n ∷ []
range_next n =
    let more : n + 1 ≡ suc n = omega arith in
    let last : 0 + n ≡ n = omega arith in ap (range_with_len 0) more ∙ range_more 0 n ∙ ap (λ k. range_with_len 0 n ++ k ∷ []) last

kept_both : {X : Type 0} (p : ℕ → Bool) (f : ℕ → X) (xs ys : List ℕ) → map f (filter p (xs ++ ys)) ≡ map f (filter p xs) ++ map f (filter p ys)
kept_both p f [] ys = refl
kept_both p f (x ∷ xs) ys = by (p x) (kept_both p f xs ys)
  where
    by : (b : Bool) → map f (filter p (xs ++ ys)) ≡ map f (filter p xs) ++ map f (filter p ys)
        → map f (cond b (x ∷ filter p (xs ++ ys)) (filter p (xs ++ ys))) ≡ map f (cond b (x ∷ filter p xs) (filter p xs)) ++ map f (filter p ys)
    by true rest = ap (λ l. f x ∷ l) rest
    by false rest = rest

pub kept_next : {X : Type 0} (p : ℕ → Bool) (f : ℕ → X) (n : ℕ) → map f (filter p (range_with_len 0 (n + 1))) ≡ map f (filter p (range_with_len 0 n)) ++ map f (filter p (n ∷ []))
kept_next p f n = ap (λ l. map f (filter p l)) (range_next n) ∙ kept_both p f (range_with_len 0 n) (n ∷ [])

pub length_mapped : {X Y : Type 0} (f : X → Y) (xs : List X) → length (map f xs) ≡ length xs
length_mapped f [] = refl
length_mapped f (x ∷ xs) = ap suc (length_mapped f xs)

-- two filters in either order
pub filters_commute : {X : Type 0} (p q : X → Bool) (xs : List X) → filter p (filter q xs) ≡ filter q (filter p xs)
filters_commute p q [] = refl
filters_commute {X} p q (x ∷ xs) = by (p x) refl (q x) refl (filters_commute p q xs)
  where
    by : (b : Bool) → p x ≡ b → (c : Bool) → q x ≡ c → filter p (filter q xs) ≡ filter q (filter p xs) → filter p (cond (q x) (x ∷ filter q xs) (filter q xs)) ≡ filter q (cond (p x) (x ∷ filter p xs) (filter p xs))
    by true e true f rest =
        ap (λ c. filter p (cond c (x ∷ filter q xs) (filter q xs))) f ∙ ap (λ b. cond b (x ∷ filter p (filter q xs)) (filter p (filter q xs))) e ∙ ap (λ l. x ∷ l) rest
        ∙ sym (ap (λ b. filter q (cond b (x ∷ filter p xs) (filter p xs))) e ∙ ap (λ c. cond c (x ∷ filter q (filter p xs)) (filter q (filter p xs))) f)
    by true e false f rest =
        ap (λ c. filter p (cond c (x ∷ filter q xs) (filter q xs))) f ∙ rest
        ∙ sym (ap (λ b. filter q (cond b (x ∷ filter p xs) (filter p xs))) e ∙ ap (λ c. cond c (x ∷ filter q (filter p xs)) (filter q (filter p xs))) f)
    by false e true f rest =
        ap (λ c. filter p (cond c (x ∷ filter q xs) (filter q xs))) f ∙ ap (λ b. cond b (x ∷ filter p (filter q xs)) (filter p (filter q xs))) e ∙ rest
        ∙ sym (ap (λ b. filter q (cond b (x ∷ filter p xs) (filter p xs))) e)
    by false e false f rest =
        ap (λ c. filter p (cond c (x ∷ filter q xs) (filter q xs))) f ∙ rest ∙ sym (ap (λ b. filter q (cond b (x ∷ filter p xs) (filter p xs))) e)

module _ (g h : ℕ → ℕ) where
  pub total_same : (n : ℕ) → ((s : ℕ) → s < n → g s ≡ h s) → total g n ≡ total h n
  total_same zero e = refl
  total_same (suc n) e = let a = total_same n (λ s lt. e s (omega (arith, lt))) in let b = e n (omega arith) in omega (arith, a, b)

  -- one more at one place
  total_more : (n i : ℕ) → i < n → g i ≡ h i + 1 → ((s : ℕ) → s ≢ i → g s ≡ h s) → total g n ≡ total h n + 1
  total_more zero i lt one e = absurd (omega (arith, lt))
  total_more (suc n) i lt one e =
      ⊎_elim
      (λ k. let last = total_same n (λ s inside. e s (λ same. let x = k.1 in omega (arith, inside, same, x))) in let here : g n ≡ h n + 1 = subst (λ z. g z ≡ h z + 1) (sym k.1) one in omega (arith, last, here))
      (λ k. let ne = k.1 in let before = total_more n i (omega (arith, lt, ne)) one e in let here = e n ne in omega (arith, before, here))
      (eqb_tells n i)

module _ {X : Type 0} (f : X → ℕ) (p : X → Bool) where
  -- the numbers add up
  pub counts_add : (n : ℕ) (xs : List X) → AllByRecursion (λ x. f x < n) xs → length (filter p xs) ≡ total (λ s. length (filter p (filter (λ x. f x == s) xs))) n
  counts_add n [] all = sym (none n)
    where
      none : (n : ℕ) → total (λ s. 0) n ≡ 0
      none zero = refl
      none (suc n) = let rest = none n in omega (arith, rest)
  counts_add n (x ∷ xs) all = by (p x) refl (counts_add n xs all.1)
    where
      part_of : ℕ → ℕ
      part_of s = length (filter p (filter (λ y. f y == s) xs))

      with_x : ℕ → ℕ
      with_x s = length (filter p (cond (f x == s) (x ∷ filter (λ y. f y == s) xs) (filter (λ y. f y == s) xs)))

      apart : (s : ℕ) → s ≢ f x → with_x s ≡ part_of s
      apart s ne = ⊎_elim (λ k. absurd (ne (sym k.1))) (λ k. ap (λ b. length (filter p (cond b (x ∷ filter (λ y. f y == s) xs) (filter (λ y. f y == s) xs)))) k.0) (eqb_tells (f x) s)

      here : with_x (f x) ≡ length (cond (p x) (x ∷ filter p (filter (λ y. f y == f x) xs)) (filter p (filter (λ y. f y == f x) xs)))
      here = ⊎_elim (λ k. ap (λ b. length (filter p (cond b (x ∷ filter (λ y. f y == f x) xs) (filter (λ y. f y == f x) xs)))) k.0) (λ k. absurd (k.1 refl)) (eqb_tells (f x) (f x))

      by : (b : Bool) → p x ≡ b → length (filter p xs) ≡ total part_of n → length (cond (p x) (x ∷ filter p xs) (filter p xs)) ≡ total with_x n
      by true e rest =
          let one : with_x (f x) ≡ part_of (f x) + 1 = here ∙ ap (λ b. length (cond b (x ∷ filter p (filter (λ y. f y == f x) xs)) (filter p (filter (λ y. f y == f x) xs)))) e ∙ omega arith in
          let more = total_more with_x part_of n (f x) all.0 one apart in
          ap (λ b. length (cond b (x ∷ filter p xs) (filter p xs))) e ∙ omega (arith, rest, more)
      by false e rest =
          let none : with_x (f x) ≡ part_of (f x) = here ∙ ap (λ b. length (cond b (x ∷ filter p (filter (λ y. f y == f x) xs)) (filter p (filter (λ y. f y == f x) xs)))) e in
          ap (λ b. length (cond b (x ∷ filter p xs) (filter p xs))) e ∙ rest
          ∙ sym (total_same with_x part_of n (λ s lt. ⊎_elim (λ k. subst (λ z. with_x z ≡ part_of z) k.1 none) (λ k. apart s (λ same. k.1 (sym same))) (eqb_tells (f x) s)))

-- the first ones of a list are among the first of a part of it
module _ {X : Type 0} (q : X → Bool) (x : X) (passes : q x ≡ true) where
  more_first : (m : ℕ) (zs : List X) → Contains (take m zs) x → Contains (take (suc m) zs) x
  more_first zero zs (n, within, is) = absurd (omega arith)
  more_first (suc m) [] (n, within, is) = absurd (omega arith)
  more_first (suc m) (z ∷ zs) (zero, within, is) = (zero, omega arith, is)
  more_first (suc m) (z ∷ zs) (suc n, within, is) = later_there z (take (suc m) zs) x (more_first m zs (n, omega arith, is))

  pub first_of_part : (m : ℕ) (xs : List X) → Contains (take m xs) x → Contains (take m (filter q xs)) x
  first_of_part zero xs (n, within, is) = absurd (omega arith)
  first_of_part (suc m) [] (n, within, is) = absurd (omega arith)
  first_of_part (suc m) (y ∷ ys) there = by (first_or_later y (take m ys) x there) (q y) refl (λ k. first_of_part m ys k)
    where
      by : (y ≡ x) ⊎ Contains (take m ys) x → (b : Bool) → q y ≡ b → (Contains (take m ys) x → Contains (take m (filter q ys)) x) → Contains (take (suc m) (cond (q y) (y ∷ filter q ys) (filter q ys))) x
      by (inl e) b f onward =
          subst (λ t. Contains (take (suc m) (cond t (y ∷ filter q ys) (filter q ys))) x) (sym (ap q e ∙ passes)) (subst (λ z. Contains (z ∷ take m (filter q ys)) x) (sym e) (first_there x (take m (filter q ys))))
      by (inr k) true f onward = subst (λ t. Contains (take (suc m) (cond t (y ∷ filter q ys) (filter q ys))) x) (sym f) (later_there y (take m (filter q ys)) x (onward k))
      by (inr k) false f onward = subst (λ t. Contains (take (suc m) (cond t (y ∷ filter q ys) (filter q ys))) x) (sym f) (more_first m (filter q ys) (onward k))

-- rising lists: the first ones of all are the first ones of any list that has them and only elements of all
module _ {X : Type 0} (c : X → X → Ordering) (apart : (x y : X) → c x y ≡ Less → c y x ≢ Less) where
  each_of : (P : X → Type 0) (xs : List X) (x : X) → AllByRecursion P xs → Contains xs x → P x
  each_of P [] x all (n, within, is) = absurd (omega arith)
  each_of P (y ∷ ys) x all (zero, within, is) = subst P is all.0
  each_of P (y ∷ ys) x all (suc n, within, is) = each_of P ys x all.1 (n, omega arith, is)

  not_itself : (x : X) → c x x ≡ Less → ⊥
  not_itself x e = apart x x e e

  pub same_first : (m : ℕ) (xs ys : List X) → IsStrictlySortedBy c xs → IsStrictlySortedBy c ys → ((x : X) → Contains ys x → Contains xs x) → ((x : X) → Contains (take m xs) x → Contains ys x) → take m ys ≡ take m xs
  unfolding IsStrictlySortedBy
  same_first zero xs ys sx sy few all = refl
  same_first (suc m) [] [] sx sy few all = refl
  same_first (suc m) [] (y ∷ ys) sx sy few all = let w = few y (first_there y ys) in let lt = w.1 in absurd (omega (arith, lt))
  same_first (suc m) (x ∷ xs) [] sx sy few all = let w = all x (first_there x (take m xs)) in let lt = w.1 in absurd (omega (arith, lt))
  same_first (suc m) (x ∷ xs) (y ∷ ys) sx sy few all =
      let first : y ≡ x = by (first_or_later y ys x (all x (first_there x (take m xs)))) (first_or_later x xs y (few y (first_there y ys))) in
      λ i. first i ∷ same_first m xs ys sx.1 sy.1
      (λ z there. ⊎_elim (λ same. absurd (not_itself z (subst (λ w. c w z ≡ Less) (first ∙ same) (each_of (λ v. c y v ≡ Less) ys z sy.0 there)))) (λ k. k) (first_or_later x xs z (few z (later_there y ys z there))))
      (λ z there. ⊎_elim (λ same. absurd (not_itself z (subst (λ w. c w z ≡ Less) (sym first ∙ same) (each_of (λ v. c x v ≡ Less) xs z sx.0 (front m xs z there))))) (λ k. k) (first_or_later y ys z (all z (later_there x (take m xs) z there)))) i
    where
      front : (m : ℕ) (zs : List X) (z : X) → Contains (take m zs) z → Contains zs z
      front zero zs z (n, within, is) = absurd (omega arith)
      front (suc m) [] z (n, within, is) = absurd (omega arith)
      front (suc m) (v ∷ vs) z (zero, within, is) = (zero, omega arith, is)
      front (suc m) (v ∷ vs) z (suc n, within, is) = let w = front m vs z (n, omega arith, is) in later_there v vs z w

      by : (y ≡ x) ⊎ Contains ys x → (x ≡ y) ⊎ Contains xs y → y ≡ x
      by (inl e) b = e
      by (inr k) (inl e) = sym e
      by (inr k) (inr l) = absurd (apart x y (each_of (λ v. c x v ≡ Less) xs y sx.0 l) (each_of (λ v. c y v ≡ Less) ys x sy.0 k))
