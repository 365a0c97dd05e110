-- One more try of a delivery.
use Rattle.std.proofs.Common.{◌≡◌, ℕ, ◌≤◌, suc, ◌+◌, add-one, true, false, arith, refl}
use Rattle.std.proofs.lemmas.Bool.Decides.{nat_tests}
use Rattle.resh_luck.specs.declared.fate.Delivery.{Delivery}
use Rattle.resh_luck.specs.declared.fate.Delivery.TheVariants.{Once, Lost, Twice}
use Rattle.resh_luck.specs.Fates.{Told, Counts, Rose, plus_count, HasRisen, next_delivery, after_delivery, is_lost, loses, after_tries}

pub loses-lost : (n : ℕ) (t : Told) → is_lost (next_delivery t) ≡ true → loses (suc n) t ≡ loses n (after_delivery t)
unfolding loses
loses-lost n t e = rw e

pub loses-got : (n : ℕ) (t : Told) → is_lost (next_delivery t) ≡ false → loses (suc n) t ≡ false
unfolding loses
loses-got n t e = rw e

pub after_tries-lost : (n : ℕ) (t : Told) → is_lost (next_delivery t) ≡ true → after_tries (suc n) t ≡ after_tries n (after_delivery t)
unfolding after_tries
after_tries-lost n t e = rw e

pub after_tries-got : (n : ℕ) (t : Told) → is_lost (next_delivery t) ≡ false → after_tries (suc n) t ≡ after_delivery t
unfolding after_tries
after_tries-got n t e = rw e

pub loses-step : (n m : ℕ) (t u : Told) → n ≡ m + 1 → u ≡ after_delivery t → is_lost (next_delivery t) ≡ true → loses n t ≡ loses m u
loses-step n m t u count told e = rw (count, add-one, told) (loses-lost m t e)

pub after_tries-step : (n m : ℕ) (t u : Told) → n ≡ m + 1 → u ≡ after_delivery t → is_lost (next_delivery t) ≡ true → after_tries n t ≡ after_tries m u
after_tries-step n m t u count told e = rw (count, add-one, told) (after_tries-lost m t e)

pub loses-end : (n m : ℕ) (t : Told) → n ≡ m + 1 → is_lost (next_delivery t) ≡ false → loses n t ≡ false
loses-end n m t count e = rw (count, add-one) (loses-got m t e)

pub after_tries-end : (n m : ℕ) (t : Told) → n ≡ m + 1 → is_lost (next_delivery t) ≡ false → after_tries n t ≡ after_delivery t
after_tries-end n m t count e = rw (count, add-one) (after_tries-got m t e)

pub loses-none : (n : ℕ) (t : Told) → n ≡ 0 → loses n t ≡ true
unfolding loses
loses-none n t e = rw e

pub after_tries-none : (n : ℕ) (t : Told) → n ≡ 0 → after_tries n t ≡ t
unfolding after_tries
after_tries-none n t e = rw e

pub is_lost-not : (d : Delivery) → (d ≡ Lost → ⊥) → is_lost d ≡ false
is_lost-not Once isnt = refl
is_lost-not Lost isnt = absurd (isnt refl)
is_lost-not Twice isnt = refl

pub HasRisen-trans : (a b c : Counts) → HasRisen a b → HasRisen b c → HasRisen a c
HasRisen-trans a b c p q = record { losses = omega arith; crashes = omega arith; failures = omega arith }

pub plus_count-step : (a b c k : ℕ) → plus_count a k ≤ b → Rose b c → plus_count a (k + 1) ≤ c
plus_count-step a b c k p q = grind (arith, nat_tests)
