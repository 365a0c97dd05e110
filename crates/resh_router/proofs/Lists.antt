-- Lists: what their first items keep, what is distinct, and sums.
use Rattle.std.proofs.Common.{◌≡◌, ◌==◌, ◌<◌, ◌≤◌, ◌+◌, ⊎_elim, ℕ, zero, suc, Bool, true, false, cond, List, [], ◌∷◌, ◌++◌, map, filter, take, refl, sym, ap, ◌∙◌, subst, arith}
use Rattle.std.proofs.lemmas.Bool.Decides.{eqb_tells}
use Rattle.std.proofs.lemmas.List.Sums.{fold-append}
use Rattle.std.specs.List.{AllByRecursion, Contains, IsDistinct, fold, range_with_len, sum_by}
use Rattle.std.specs.List.Sorted.{IsStrictlySortedBy}
use Rattle.std.specs.declared.cmp.Ordering.{Ordering}
use Rattle.std.specs.declared.cmp.Ordering.TheVariants.{Less}
use Rattle.resh_bag.specs.Parts.{total}
use Rattle.resh_bag.proofs.Lists.{first_or_later, first_there, later_there}

-- the first items of a list
pub front : {X : Type 0} (m : ℕ) (xs : List X) (x : X) → Contains (take m xs) x → Contains xs x
front zero xs x (n, within, is) = absurd (omega arith)
front (suc m) [] x (n, within, is) = absurd (omega arith)
front (suc m) (y ∷ ys) x there = ⊎_elim (λ same. subst (Contains (y ∷ ys)) same (first_there y ys)) (λ later. later_there y ys x (front m ys x later)) (first_or_later y (take m ys) x there)

all_first : {X : Type 0} (P : X → Type 0) (m : ℕ) (xs : List X) → AllByRecursion P xs → AllByRecursion P (take m xs)
all_first P zero xs all = tt
all_first P (suc m) [] all = tt
all_first P (suc m) (x ∷ xs) all = (all.0, all_first P m xs all.1)

pub first_rise : {X : Type 0} (c : X → X → Ordering) (m : ℕ) (xs : List X) → IsStrictlySortedBy c xs → IsStrictlySortedBy c (take m xs)
unfolding IsStrictlySortedBy
first_rise c zero xs s = tt
first_rise c (suc m) [] s = tt
first_rise c (suc m) (x ∷ xs) s = (all_first (λ y. c x y ≡ Less) m xs s.0, first_rise c m xs s.1)

-- all items of a list
pub all_there : {X : Type 0} (P : X → Type 0) (xs : List X) → ((x : X) → Contains xs x → P x) → AllByRecursion P xs
all_there P [] each = tt
all_there P (x ∷ xs) each = (each x (first_there x xs), all_there P xs (λ y there. each y (later_there x xs y there)))

pub one_of : {X : Type 0} (P : X → Type 0) (xs : List X) (x : X) → AllByRecursion P xs → Contains xs x → P x
one_of P [] x all (n, within, is) = absurd (omega arith)
one_of P (y ∷ ys) x all there = ⊎_elim (λ same. subst P same all.0) (λ later. one_of P ys x all.1 later) (first_or_later y ys x there)

all_joined : {X : Type 0} (P : X → Type 0) (xs ys : List X) → AllByRecursion P xs → AllByRecursion P ys → AllByRecursion P (xs ++ ys)
all_joined P [] ys all others = others
all_joined P (x ∷ xs) ys all others = (all.0, all_joined P xs ys all.1 others)

pub all_kept : {X : Type 0} (p : X → Bool) (xs : List X) → ((x : X) → Contains xs x → p x ≡ true) → filter p xs ≡ xs
all_kept p [] each = refl
all_kept p (x ∷ xs) each = ap (λ b. cond b (x ∷ filter p xs) (filter p xs)) (each x (first_there x xs)) ∙ ap (λ l. x ∷ l) (all_kept p xs (λ y there. each y (later_there x xs y there)))

-- what passes one test passes another
pub only_those : {X : Type 0} (p q : X → Bool) → ((x : X) → p x ≡ true → q x ≡ true) → (xs : List X) → filter p (filter q xs) ≡ filter p xs
only_those p q follows [] = refl
only_those p q follows (x ∷ xs) = by (p x) refl (q x) refl (only_those p q follows xs)
  where
    by : (b : Bool) → p x ≡ b → (c : Bool) → q x ≡ c → filter p (filter q xs) ≡ filter p xs → filter p (cond c (x ∷ filter q xs) (filter q xs)) ≡ cond b (x ∷ filter p xs) (filter p xs)
    by true e true f rest = ap (λ b. cond b (x ∷ filter p (filter q xs)) (filter p (filter q xs))) e ∙ ap (λ l. x ∷ l) rest
    by true e false f rest = absurd (let off : true ≡ false = sym (follows x e) ∙ f in cc)
    by false e true f rest = ap (λ b. cond b (x ∷ filter p (filter q xs)) (filter p (filter q xs))) e ∙ rest
    by false e false f rest = rest

-- two lists without repeats that have nothing in common
pub distinct_joined : {X : Type 0} (e : X → X → Bool) (xs ys : List X) → IsDistinct e xs → IsDistinct e ys → ((x y : X) → Contains xs x → Contains ys y → e x y ≡ false) → IsDistinct e (xs ++ ys)
unfolding IsDistinct
distinct_joined e [] ys one other apart = other
distinct_joined e (x ∷ xs) ys one other apart = (
  all_joined (λ y. e x y ≡ false) xs ys one.0 (all_there (λ y. e x y ≡ false) ys (λ y there. apart x y (first_there x xs) there)),
  distinct_joined e xs ys one.1 other (λ a b here there. apart a b (later_there x xs a here) there),
)

-- numbers in a row
pub range_below : (from n k : ℕ) → Contains (range_with_len from n) k → from ≤ k
range_below from zero k (i, within, is) = absurd (omega arith)
range_below from (suc n) k there =
    ⊎_elim (λ same. omega (arith, same)) (λ later. let le = range_below (from + 1) n k later in omega (arith, le)) (first_or_later from (range_with_len (from + 1) n) k there)

pub range_distinct : (from n : ℕ) → IsDistinct (λ a b. a == b) (range_with_len from n)
unfolding IsDistinct
range_distinct from zero = tt
range_distinct from (suc n) = (
  all_there (λ k. (from == k) ≡ false) (range_with_len (from + 1) n) (λ k there. let le = range_below (from + 1) n k there in ⊎_elim (λ same. let is = same.1 in absurd (omega (arith, le, is))) (λ other. other.0) (eqb_tells from k)),
  range_distinct (from + 1) n,
)

pub in_range : (from n k : ℕ) → from ≤ k → k < from + n → Contains (range_with_len from n) k
in_range from zero k le lt = absurd (omega (arith, le, lt))
in_range from (suc n) k le lt =
    ⊎_elim (λ same. subst (Contains (from ∷ range_with_len (from + 1) n)) same.1 (first_there from (range_with_len (from + 1) n)))
    (λ other. let ne = other.1 in later_there from (range_with_len (from + 1) n) k (in_range (from + 1) n k (omega (arith, le, ne)) (omega (arith, lt))))
    (eqb_tells from k)

range_more : (from n : ℕ) → range_with_len from (suc n) ≡ range_with_len from n ++ (from + n) ∷ []
range_more from zero = let same : from ≡ from + 0 = omega arith in ap (λ k. k ∷ []) same
range_more from (suc n) = let same : from + 1 + n ≡ from + suc n = omega arith in ap (λ l. from ∷ l) (range_more (from + 1) n ∙ ap (λ k. range_with_len (from + 1) n ++ k ∷ []) same)

-- sums
pub sum_mapped : {X Y : Type 0} (g : X → Y) (f : Y → ℕ) (xs : List X) → sum_by f (map g xs) ≡ sum_by (λ x. f (g x)) xs
sum_mapped {X} g f xs = go 0 xs
  where
    go : (before : ℕ) (ys : List X) → fold (λ a y. a + f y) before (map g ys) ≡ fold (λ a x. a + f (g x)) before ys
    go before [] = refl
    go before (y ∷ ys) = go (before + f (g y)) ys

pub sum_total : (g : ℕ → ℕ) (n : ℕ) → sum_by g (range_with_len 0 n) ≡ total g n
sum_total g zero = refl
sum_total g (suc n) =
    let last : 0 + n ≡ n = omega arith in
    ap (sum_by g) (range_more 0 n ∙ ap (λ k. range_with_len 0 n ++ k ∷ []) last)
    ∙ fold-append (λ a x. a + g x) 0 (range_with_len 0 n) (n ∷ [])
    ∙ ap (λ a. a + g n) (sum_total g n)
