-- No event adds to the calls that are still to come, and one that meets a fate or a loss takes of them.
use Rattle.std.proofs.Common.{◌≡◌, ◌<◌, ◌≤◌, ℕ, zero, suc, ◌+◌, ◌-◌, ◌^◌, Bool, true, false, ◌&&◌, cond, List, [], ◌∷◌, nat_lt, Option, Some, None, refl, sym, ap, subst, ◌∙◌, slice_index_or, slice_set}
use Rattle.std.proofs.lemmas.Bool.Decides.{nat_tests}
use native.Mathlib.Omega.{arith}
use Rattle.resh_value.specs.declared.value.ShardId.{ShardId}
use Rattle.resh_luck.specs.declared.row.Kind.TheVariants.{Deliver}
use Rattle.resh_luck.specs.declared.row.PlanFate.{PlanFate}
use Rattle.resh_luck.specs.declared.fate.Fate.{Fate}
use Rattle.resh_luck.specs.declared.fate.Fate.TheVariants as fate
use Rattle.resh_luck.specs.declared.fate.Delivery.TheVariants as delivery
use Rattle.resh_luck.specs.Fates.{Told, met, as_delivery, next_count, next_fate, next_delivery, after_commit, after_delivery, after_tries, is_lost, loses, no_calls}
use Rattle.resh_luck.proofs.Tries.{after_tries-step, loses-end}
use Rattle.resh_setup.specs.declared.plan.Who.{Who}
use Rattle.resh_setup.specs.declared.plan.Who.TheVariants.{Coordinator, Link, Lane}
use Rattle.resh_setup.specs.declared.setup.Setup.{Setup}
use Rattle.resh_setup.specs.declared.trace.Met.{Met}
use Rattle.resh_setup.specs.declared.trace.Met.TheVariants.{Row}
use Rattle.resh_events.specs.Follows.{limit}
use Rattle.resh_events.specs.Luck.{Asks, quiet, commits, delivers}
use Rattle.resh_events.specs.Lucks.{Lucks, called, lane_place, link_place, told_of, with_told}
use Rattle.resh_events.specs.Plans.{given_by, met_of, tried}
use Rattle.resh_ending.specs.Calls.{FateCalls, calls, greatest}
use Rattle.resh_rounds.specs.Sums.{total}
use Rattle.resh_rounds.specs.Supplies.{calls_left}
use Rattle.resh_ending.proofs.Calling.{calls-commit, calls-met}
use Rattle.resh_rounds.proofs.Sums.{total_less, total_set}

-- a delivery takes none back, and one that is lost uses a call
fewer : (most a b : ℕ) → a < 2 ^ 32 → a + 1 ≤ most → (most - b) + (most - next_count a) < (most - b) + (most - a)
fewer most a b small within = grind (arith, nat_tests)

no_more_left : (most a b : ℕ) → (most - b) + (most - next_count a) ≤ (most - b) + (most - a)
no_more_left most a b = grind (arith, nat_tests)

small_count : (n : ℕ) → nat_lt n (2 ^ 32) ≡ true → n < 2 ^ 32
small_count n e = grind (arith, nat_tests)

some_loss : (o : Option PlanFate) (b : Bool) (before now : ℕ) → (b ≡ true → (p : PlanFate) → o ≡ Some p → now < before)
    → is_lost (cond b (as_delivery o) delivery.Once) ≡ true → now < before
some_loss o false before now lt e = cc
some_loss None true before now lt e = cc
some_loss (Some p) true before now lt e = lt refl p refl

delivery_most : (t : Told) → calls (after_delivery t) ≤ calls t
unfolding calls
delivery_most t = no_more_left (greatest t.rows) t.deliveries t.commits

delivery_lost : (t : Told) → is_lost (next_delivery t) ≡ true → calls (after_delivery t) < calls t
unfolding calls
delivery_lost t e =
    some_loss (met t.rows Deliver (t.deliveries + 1)) (nat_lt t.deliveries (2 ^ 32)) _ _
    (λ small p q. fewer (greatest t.rows) t.deliveries t.commits (small_count t.deliveries small)
    (calls-met t.rows Deliver (t.deliveries + 1) p q)) e

at_most : (a b c : ℕ) → b ≤ a → c ≤ b → c ≤ a
at_most a b c h k = omega arith

less_then : (a b c : ℕ) → b < a → c ≤ b → c < a
less_then a b c h k = omega arith

alike : (n : ℕ) → n ≤ n
alike n = omega arith

tries_most : (n : ℕ) (t : Told) → calls (after_tries n t) ≤ calls t
unfolding after_tries
tries_most zero t = alike (calls t)
tries_most (suc n) t = by (is_lost (next_delivery t)) (tries_most n (after_delivery t))
  where
    by : (b : Bool) → calls (after_tries n (after_delivery t)) ≤ calls (after_delivery t)
        → calls (cond b (after_tries n (after_delivery t)) (after_delivery t)) ≤ calls t
    by true h = at_most (calls t) (calls (after_delivery t)) (calls (after_tries n (after_delivery t))) (delivery_most t) h
    by false h = delivery_most t

tries_lost : (t : Told) → loses limit t ≡ true → calls (after_tries limit t) < calls t
tries_lost t lost = by (is_lost (next_delivery t)) refl
  where
    by : (b : Bool) → is_lost (next_delivery t) ≡ b → calls (after_tries limit t) < calls t
    by true is =
        let step : after_tries limit t ≡ after_tries 63 (after_delivery t) = after_tries-step limit 63 t (after_delivery t) refl refl is in
        subst (λ (u : Told). calls u < calls t) (sym step)
        (less_then (calls t) (calls (after_delivery t)) (calls (after_tries 63 (after_delivery t))) (delivery_lost t is)
        (tries_most 63 (after_delivery t)))
    by false is = let never : loses limit t ≡ false = loses-end limit 63 t refl is in cc

fate_most : (f : Fate) (before now : ℕ) → FateCalls f before now → now ≤ before
fate_most fate.Kept before now h = h
fate_most fate.CrashedBefore before now h = omega arith
fate_most fate.CrashedAfter before now h = omega arith
fate_most fate.Failed before now h = omega arith

commit_most : (t : Told) → calls (after_commit t) ≤ calls t
commit_most t = fate_most (next_fate t) (calls t) (calls (after_commit t)) (calls-commit t)

fate_less : (f : Fate) (before now : ℕ) → (met_of f ≡ Row → ⊥) → FateCalls f before now → now < before
fate_less fate.Kept before now other h = absurd (other refl)
fate_less fate.CrashedBefore before now other h = h
fate_less fate.CrashedAfter before now other h = h
fate_less fate.Failed before now other h = h

-- one luck's calls among those of all
none_to_come : calls (no_calls []) ≡ 0
unfolding calls greatest
none_to_come = refl

parts_most : (a b c x y z : ℕ) → x ≤ a → y ≤ b → z ≤ c → x + (y + z) ≤ a + (b + c)
parts_most a b c x y z h k l = omega arith

first_less : (a b c x : ℕ) → x < a → x + (b + c) < a + (b + c)
first_less a b c x h = omega arith

second_less : (a b c x : ℕ) → x < b → a + (x + c) < a + (b + c)
second_less a b c x h = omega arith

third_less : (a b c x : ℕ) → x < c → a + (b + x) < a + (b + c)
third_less a b c x h = omega arith

module _ (setup : Setup) (lucks : Lucks) where
  told_most : (who : Who) (t : Told) → calls t ≤ calls (told_of setup lucks who)
      → calls_left (with_told setup lucks who t) ≤ calls_left lucks
  told_most Coordinator t h =
      parts_most (calls lucks.coordinator) (total calls lucks.links) (total calls lucks.lanes) (calls t) (total calls lucks.links)
      (total calls lucks.lanes) h (alike (total calls lucks.links)) (alike (total calls lucks.lanes))
  told_most (Link r d) t h =
      parts_most (calls lucks.coordinator) (total calls lucks.links) (total calls lucks.lanes) (calls lucks.coordinator)
      (total calls (slice_set lucks.links (link_place setup r d) t)) (total calls lucks.lanes) (alike (calls lucks.coordinator))
      (total_set calls lucks.links (link_place setup r d) t (no_calls []) h) (alike (total calls lucks.lanes))
  told_most (Lane r d l) t h =
      parts_most (calls lucks.coordinator) (total calls lucks.links) (total calls lucks.lanes) (calls lucks.coordinator)
      (total calls lucks.links) (total calls (slice_set lucks.lanes (lane_place setup r d l) t)) (alike (calls lucks.coordinator))
      (alike (total calls lucks.links)) (total_set calls lucks.lanes (lane_place setup r d l) t (no_calls []) h)

  told_less : (who : Who) (t : Told) → calls t < calls (told_of setup lucks who)
      → calls_left (with_told setup lucks who t) < calls_left lucks
  told_less Coordinator t h = first_less (calls lucks.coordinator) (total calls lucks.links) (total calls lucks.lanes) (calls t) h
  told_less (Link r d) t h =
      second_less (calls lucks.coordinator) (total calls lucks.links) (total calls lucks.lanes)
      (total calls (slice_set lucks.links (link_place setup r d) t))
      (total_less calls lucks.links (link_place setup r d) t (no_calls []) none_to_come h)
  told_less (Lane r d l) t h =
      third_less (calls lucks.coordinator) (total calls lucks.links) (total calls lucks.lanes)
      (total calls (slice_set lucks.lanes (lane_place setup r d l) t))
      (total_less calls lucks.lanes (lane_place setup r d l) t (no_calls []) none_to_come h)

  pub called_most : (a : Asks) → calls_left (called setup a lucks) ≤ calls_left lucks
  called_most quiet = alike (calls_left lucks)
  called_most (commits who) = told_most who (after_commit (told_of setup lucks who)) (commit_most (told_of setup lucks who))
  called_most (delivers who) =
      told_most who (after_tries limit (told_of setup lucks who)) (tries_most limit (told_of setup lucks who))

  lost_less : (who : Who) (b : Bool) → loses limit (told_of setup lucks who) ≡ b → (tried b ≡ Row → ⊥)
      → calls_left (with_told setup lucks who (after_tries limit (told_of setup lucks who))) < calls_left lucks
  lost_less who true is other =
      told_less who (after_tries limit (told_of setup lucks who)) (tries_lost (told_of setup lucks who) is)
  lost_less who false is other = absurd (other refl)

  -- what is given is no row: a call is used
  pub called_less : (a : Asks) → (given_by setup lucks a ≡ Row → ⊥) → calls_left (called setup a lucks) < calls_left lucks
  called_less quiet other = absurd (other refl)
  called_less (commits who) other =
      told_less who (after_commit (told_of setup lucks who))
      (fate_less (next_fate (told_of setup lucks who)) (calls (told_of setup lucks who))
      (calls (after_commit (told_of setup lucks who))) other (calls-commit (told_of setup lucks who)))
  called_less (delivers who) other = lost_less who (loses limit (told_of setup lucks who)) refl other
