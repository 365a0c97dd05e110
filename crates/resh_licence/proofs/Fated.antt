-- What the answers of a luck say of its rows.
use Rattle.std.proofs.Common.{◌≡◌, ℕ, suc, zero, ◌+◌, ◌^◌, ◌<◌, ◌≤◌, Bool, true, false, ◌&&◌, cond, nat_lt, Option, Some, None, subst, arith, refl}
use Rattle.std.proofs.lemmas.Bool.Decides.{nat_tests}
use Rattle.resh_luck.specs.declared.row.Kind.TheVariants.{Commit, Deliver}
use Rattle.resh_luck.specs.declared.row.PlanFate.{PlanFate}
use Rattle.resh_luck.specs.declared.row.PlanFate.TheVariants as plan
use Rattle.resh_luck.specs.declared.fate.Fate.{Fate}
use Rattle.resh_luck.specs.declared.fate.Fate.TheVariants as fate
use Rattle.resh_luck.specs.declared.fate.Delivery.TheVariants as delivery
use Rattle.resh_luck.specs.Fates.{Told, after_commit, after_delivery, after_tries, as_delivery, as_fate, is_lost, loses, met, next_count, next_delivery, next_fate}
use Rattle.resh_model.specs.Licence.{is_crash}

abbrev pub crashes : Fate → Bool
crashes fate.Kept = false
crashes fate.CrashedBefore = true
crashes fate.CrashedAfter = true
crashes fate.Failed = false

abbrev pub fails : Fate → Bool
fails fate.Kept = false
fails fate.CrashedBefore = false
fails fate.CrashedAfter = false
fails fate.Failed = true

crash_at : (o : Option PlanFate) (b : Bool) → crashes (cond b (as_fate o) fate.Kept) ≡ true → (is_crash o ≡ true) × (b ≡ true)
crash_at o false e = cc
crash_at None true e = cc
crash_at (Some plan.CrashedBefore) true e = (refl, refl)
crash_at (Some plan.CrashedAfter) true e = (refl, refl)
crash_at (Some plan.Failed) true e = cc
crash_at (Some plan.Lost) true e = cc
crash_at (Some plan.Twice) true e = cc

fails_at : (o : Option PlanFate) (b : Bool) → fails (cond b (as_fate o) fate.Kept) ≡ true → o ≡ Some plan.Failed
fails_at o false e = cc
fails_at None true e = cc
fails_at (Some plan.CrashedBefore) true e = cc
fails_at (Some plan.CrashedAfter) true e = cc
fails_at (Some plan.Failed) true e = refl
fails_at (Some plan.Lost) true e = cc
fails_at (Some plan.Twice) true e = cc

lost_at : (o : Option PlanFate) (b : Bool) → is_lost (cond b (as_delivery o) delivery.Once) ≡ true → (o ≡ Some plan.Lost) × (b ≡ true)
lost_at o false e = cc
lost_at None true e = cc
lost_at (Some plan.CrashedBefore) true e = cc
lost_at (Some plan.CrashedAfter) true e = cc
lost_at (Some plan.Failed) true e = cc
lost_at (Some plan.Lost) true e = (refl, refl)
lost_at (Some plan.Twice) true e = cc

below : (n m : ℕ) → nat_lt n m ≡ true → n < m
below n m e = grind (arith, nat_tests)

-- a commit that crashes or fails, and 64 deliveries that are lost
pub crash_known : (t : Told) → crashes (next_fate t) ≡ true
    → (is_crash (met t.rows Commit (t.commits + 1)) ≡ true) × (t.commits < 2 ^ 32)
crash_known t e =
    let p = crash_at (met t.rows Commit (t.commits + 1)) (nat_lt t.commits (2 ^ 32)) e in
    (p.0, below t.commits (2 ^ 32) p.1)

pub fail_known : (t : Told) → fails (next_fate t) ≡ true → met t.rows Commit (t.commits + 1) ≡ Some plan.Failed
fail_known t e = fails_at (met t.rows Commit (t.commits + 1)) (nat_lt t.commits (2 ^ 32)) e

both_true : (a b : Bool) → (a && b) ≡ true → (a ≡ true) × (b ≡ true)
both_true true b e = (refl, e)
both_true false b e = cc

next_small : (n : ℕ) → n < 2 ^ 32 → next_count n ≡ n + 1
next_small n h = grind (arith, nat_tests)

next_later : (n : ℕ) → n ≤ next_count n
next_later n = grind (arith, nat_tests)

pub lost_known : (n : ℕ) (t : Told) → loses n t ≡ true → (k : ℕ) → k < n → met t.rows Deliver (t.deliveries + 1 + k) ≡ Some plan.Lost
unfolding loses
lost_known zero t e k h = absurd (omega arith)
lost_known (suc n) t e k h =
    let two = both_true (is_lost (next_delivery t)) (loses n (after_delivery t)) e in
    let here = lost_at (met t.rows Deliver (t.deliveries + 1)) (nat_lt t.deliveries (2 ^ 32)) two.0 in
    one_of k h here.0 (next_small t.deliveries (below t.deliveries (2 ^ 32) here.1)) (lost_known n (after_delivery t) two.1)
  where
    one_of : (k : ℕ) → k < suc n → met t.rows Deliver (t.deliveries + 1) ≡ Some plan.Lost → next_count t.deliveries ≡ t.deliveries + 1
        → ((k : ℕ) → k < n → met t.rows Deliver (next_count t.deliveries + 1 + k) ≡ Some plan.Lost) → met t.rows Deliver (t.deliveries + 1 + k) ≡ Some plan.Lost
    one_of zero h here e ih = let same : t.deliveries + 1 ≡ t.deliveries + 1 + 0 = omega arith in subst (λ (n : ℕ). met t.rows Deliver n ≡ Some plan.Lost) same here
    one_of (suc k) h here e ih = let same : next_count t.deliveries + 1 + k ≡ t.deliveries + 1 + suc k = omega arith in subst (λ (n : ℕ). met t.rows Deliver n ≡ Some plan.Lost) same (ih k (omega arith))

-- a call changes no row, and takes back no commit
pub record Later (before now : Told) : Type 0 where
  pub rows : now.rows ≡ before.rows
  pub commits : before.commits ≤ now.commits

pub commit_later : (t : Told) → Later t (after_commit t)
commit_later t = record { rows = refl; commits = next_later t.commits }

pub tries_later : (n : ℕ) (t : Told) → Later t (after_tries n t)
unfolding after_tries
tries_later zero t = record { rows = refl; commits = omega arith }
tries_later (suc n) t = by (is_lost (next_delivery t)) (tries_later n (after_delivery t))
  where
    by : (b : Bool) → Later (after_delivery t) (after_tries n (after_delivery t))
        → Later t (cond b (after_tries n (after_delivery t)) (after_delivery t))
    by true later = record { rows = later.rows; commits = later.commits }
    by false later = record { rows = refl; commits = omega arith }

-- the commit that was made is counted
pub commit_counts : (t : Told) → t.commits < 2 ^ 32 → t.commits + 1 ≤ (after_commit t).commits
commit_counts t h = grind (arith, nat_tests)
