-- Lists: what a filter keeps, and lists in order.
use Rattle.std.proofs.Common.{◌≡◌, ◌≢◌, zero, suc, Bool, true, false, cond, List, [], ◌∷◌, filter, map, refl, sym, ap, subst, ◌∙◌, ◌⊎◌, inl, inr, arith}
use Rattle.std.proofs.lemmas.List.Elements.{All-contains, All-from_recursion}
use Rattle.std.specs.List.{AllByRecursion, Contains, IsDistinct}
use Rattle.std.specs.List.Sorted.{IsStrictlySortedBy}
use Rattle.std.specs.declared.cmp.Ordering.{Ordering}
use Rattle.std.specs.declared.cmp.Ordering.TheVariants.{Less}

-- the first is there, and what is behind it
pub first_there : {X : Type 0} (x : X) (xs : List X) → Contains (x ∷ xs) x
first_there x xs = (zero, omega arith, refl)

pub later_there : {X : Type 0} (y : X) (xs : List X) (x : X) → Contains xs x → Contains (y ∷ xs) x
later_there y xs x (k, within, is) = (suc k, omega arith, is)

pub first_or_later : {X : Type 0} (y : X) (xs : List X) (x : X) → Contains (y ∷ xs) x → (y ≡ x) ⊎ Contains xs x
first_or_later y xs x (zero, within, is) = inl is
first_or_later y xs x (suc k, within, is) = inr (k, omega arith, is)

pub mapped : {X Y : Type 0} (f : X → Y) (xs : List X) (x : X) → Contains xs x → Contains (map f xs) (f x)
mapped f [] x (k, within, is) = absurd (omega arith)
mapped {X} {Y} f (y ∷ ys) x c = by (first_or_later y ys x c) (mapped f ys x)
  where
    by : (y ≡ x) ⊎ Contains ys x → (Contains ys x → Contains (map f ys) (f x)) → Contains (f y ∷ map f ys) (f x)
    by (inl is) rest = (zero, omega arith, ap f is)
    by (inr there) rest = later_there (f y) (map f ys) (f x) (rest there)

pub unmapped : {X Y : Type 0} (f : X → Y) (xs : List X) (y : Y) → Contains (map f xs) y → (x : X) × Contains xs x × (f x ≡ y)
unmapped f [] y (k, within, is) = absurd (omega arith)
unmapped f (x ∷ xs) y (zero, within, is) = (x, first_there x xs, is)
unmapped f (x ∷ xs) y (suc k, within, is) = let w = unmapped f xs y (k, omega arith, is) in (w.0, later_there x xs w.0 w.1, w.2)

-- what passes is kept, and what is kept was there and passes
pub kept : {X : Type 0} (p : X → Bool) (xs : List X) (x : X) → Contains xs x → p x ≡ true → Contains (filter p xs) x
kept p [] x (k, within, is) t = absurd (omega arith)
kept {X} p (y ∷ ys) x c t = by (λ there. kept p ys x there t) (p y) refl (first_or_later y ys x c)
  where
    by : (Contains ys x → Contains (filter p ys) x) → (b : Bool) → p y ≡ b → (y ≡ x) ⊎ Contains ys x → Contains (cond b (y ∷ filter p ys) (filter p ys)) x
    by rest true e (inl is) = (zero, omega arith, is)
    by rest true e (inr there) = later_there y (filter p ys) x (rest there)
    by rest false e (inl is) = let passes : p y ≡ true = ap p is ∙ t in cc
    by rest false e (inr there) = rest there

pub was_there : {X : Type 0} (p : X → Bool) (xs : List X) (x : X) → Contains (filter p xs) x → Contains xs x × (p x ≡ true)
was_there p [] x (k, within, is) = absurd (omega arith)
was_there {X} p (y ∷ ys) x c = by (λ k. more (was_there p ys x k)) (p y) refl c
  where
    more : Contains ys x × (p x ≡ true) → Contains (y ∷ ys) x × (p x ≡ true)
    more (there, t) = (later_there y ys x there, t)

    split : (Contains (filter p ys) x → Contains (y ∷ ys) x × (p x ≡ true)) → p y ≡ true → (y ≡ x) ⊎ Contains (filter p ys) x → Contains (y ∷ ys) x × (p x ≡ true)
    split rest e (inl is) = ((zero, omega arith, is), ap p (sym is) ∙ e)
    split rest e (inr there) = rest there

    by : (Contains (filter p ys) x → Contains (y ∷ ys) x × (p x ≡ true)) → (b : Bool) → p y ≡ b → Contains (cond b (y ∷ filter p ys) (filter p ys)) x → Contains (y ∷ ys) x × (p x ≡ true)
    by rest true e k = split rest e (first_or_later y (filter p ys) x k)
    by rest false e k = rest k

-- two lists in strict order with the same members are the same
module _ {X : Type 0} (c : X → X → Ordering) (apart : (x y : X) → c x y ≡ Less → c y x ≢ Less) where
  head_below : (x : X) (xs : List X) → IsStrictlySortedBy c (x ∷ xs) → (y : X) → Contains xs y → c x y ≡ Less
  unfolding IsStrictlySortedBy
  head_below x xs s y there = All-contains (λ y. c x y ≡ Less) xs y (All-from_recursion (λ y. c x y ≡ Less) xs s.0) there

  rest_sorted : (x : X) (xs : List X) → IsStrictlySortedBy c (x ∷ xs) → IsStrictlySortedBy c xs
  unfolding IsStrictlySortedBy
  rest_sorted x xs s = s.1

  same_heads : (x y : X) (xs ys : List X) → IsStrictlySortedBy c (x ∷ xs) → IsStrictlySortedBy c (y ∷ ys) → Contains (y ∷ ys) x → Contains (x ∷ xs) y → y ≡ x
  same_heads x y xs ys s t xin yin = by (first_or_later y ys x xin) (first_or_later x xs y yin)
    where
      by : (y ≡ x) ⊎ Contains ys x → (x ≡ y) ⊎ Contains xs y → y ≡ x
      by (inl is) w = is
      by (inr there) (inl is) = sym is
      by (inr there) (inr here) = absurd (apart x y (head_below x xs s y here) (head_below y ys t x there))

  -- a member of one tail is a member of the other
  tail_in : (x y : X) (xs ys : List X) → IsStrictlySortedBy c (x ∷ xs) → y ≡ x → ((z : X) → Contains (x ∷ xs) z → Contains (y ∷ ys) z) → (z : X) → Contains xs z → Contains ys z
  tail_in x y xs ys s is sub z there = by (first_or_later y ys z (sub z (later_there x xs z there)))
    where
      below : c x z ≡ Less
      below = head_below x xs s z there

      by : (y ≡ z) ⊎ Contains ys z → Contains ys z
      by (inl e) = let itself : c z z ≡ Less = subst (λ w. c w z ≡ Less) (sym is ∙ e) below in absurd (apart z z itself itself)
      by (inr w) = w

  pub same_sorted : (xs ys : List X) → IsStrictlySortedBy c xs → IsStrictlySortedBy c ys → ((z : X) → Contains xs z → Contains ys z) → ((z : X) → Contains ys z → Contains xs z) → xs ≡ ys
  same_sorted [] [] s t sub sup = refl
  same_sorted [] (y ∷ ys) s t sub sup = absurd (none y (sup y (first_there y ys)))
    where
      none : (z : X) → Contains [] z → ⊥
      none z (k, within, is) = omega arith
  same_sorted (x ∷ xs) [] s t sub sup = absurd (none x (sub x (first_there x xs)))
    where
      none : (z : X) → Contains [] z → ⊥
      none z (k, within, is) = omega arith
  same_sorted (x ∷ xs) (y ∷ ys) s t sub sup =
      let heads = same_heads x y xs ys s t (sub x (first_there x xs)) (sup y (first_there y ys)) in
      let tails = same_sorted xs ys (rest_sorted x xs s) (rest_sorted y ys t) (tail_in x y xs ys s heads sub) (tail_in y x ys xs t (sym heads) sup) in
      λ i. sym heads i ∷ tails i

-- what follows from an order at members holds of a list in that order
all_more : {X : Type 0} (P Q : X → Type 0) (xs : List X) → ((x : X) → Contains xs x → P x → Q x) → AllByRecursion P xs → AllByRecursion Q xs
all_more P Q [] more all = tt
all_more P Q (x ∷ xs) more all = (more x (first_there x xs) all.0, all_more P Q xs (λ y there. more y (later_there x xs y there)) all.1)

pub still_rising : {X : Type 0} (c d : X → X → Ordering) (xs : List X) → ((x y : X) → Contains xs x → Contains xs y → c x y ≡ Less → d x y ≡ Less) → IsStrictlySortedBy c xs → IsStrictlySortedBy d xs
unfolding IsStrictlySortedBy
still_rising c d [] more s = tt
still_rising c d (x ∷ xs) more s = (
  all_more (λ y. c x y ≡ Less) (λ y. d x y ≡ Less) xs (λ y there. more x y (first_there x xs) (later_there x xs y there)) s.0,
  still_rising c d xs (λ y z there here. more y z (later_there x xs y there) (later_there x xs z here)) s.1,
)

-- a list in an order of what f gives, and what f gives in that order
pub all_mapped : {X Y : Type 0} (f : X → Y) (P : Y → Type 0) (xs : List X) → AllByRecursion (λ x. P (f x)) xs → AllByRecursion P (map f xs)
all_mapped f P [] all = tt
all_mapped f P (x ∷ xs) all = (all.0, all_mapped f P xs all.1)

pub rising_map : {X Y : Type 0} (f : X → Y) (c : Y → Y → Ordering) (xs : List X) → IsStrictlySortedBy (λ x y. c (f x) (f y)) xs → IsStrictlySortedBy c (map f xs)
unfolding IsStrictlySortedBy
rising_map f c [] s = tt
rising_map f c (x ∷ xs) s = (all_mapped f (λ y. c (f x) y ≡ Less) xs s.0, rising_map f c xs s.1)

all_unmapped : {X Y : Type 0} (f : X → Y) (P : Y → Type 0) (xs : List X) → AllByRecursion P (map f xs) → AllByRecursion (λ x. P (f x)) xs
all_unmapped f P [] all = tt
all_unmapped f P (x ∷ xs) all = (all.0, all_unmapped f P xs all.1)

pub rising_unmap : {X Y : Type 0} (f : X → Y) (c : Y → Y → Ordering) (xs : List X) → IsStrictlySortedBy c (map f xs) → IsStrictlySortedBy (λ x y. c (f x) (f y)) xs
unfolding IsStrictlySortedBy
rising_unmap f c [] s = tt
rising_unmap f c (x ∷ xs) s = (all_unmapped f (λ y. c (f x) y ≡ Less) xs s.0, rising_unmap f c xs s.1)

-- a list in strict order, whose members f tells apart, gives a list without repeats
pub distinct_map : {X K : Type 0} (f : X → K) (e : K → K → Bool) (c : X → X → Ordering) (xs : List X) → ((x y : X) → Contains xs x → Contains xs y → c x y ≡ Less → e (f x) (f y) ≡ false)
    → IsStrictlySortedBy c xs → IsDistinct e (map f xs)
unfolding IsStrictlySortedBy IsDistinct
distinct_map f e c [] apart s = tt
distinct_map f e c (x ∷ xs) apart s = (
  all_mapped f (λ k. e (f x) k ≡ false) xs (all_more (λ y. c x y ≡ Less) (λ y. e (f x) (f y) ≡ false) xs (λ y there. apart x y (first_there x xs) (later_there x xs y there)) s.0),
  distinct_map f e c xs (λ y z there here. apart y z (later_there x xs y there) (later_there x xs z here)) s.1,
)
