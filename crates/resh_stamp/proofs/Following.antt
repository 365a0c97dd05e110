-- An event has a time exactly where each clock is before the end of time.
use Rattle.std.proofs.Common.{rules, ◌≡◌, ℕ, ◌<◌, ◌+◌, max, true, nat_lt, List, [], ◌∷◌, arith}
use Rattle.std.specs.List.{AllByRecursion}
use Rattle.resh_stamp.specs.Laws.{HasNext}
use Rattle.resh_stamp.specs.Times.{end_of_time, latest}

abbrev Early : List ℕ → Type 0
Early others = AllByRecursion (λ time. time + 1 < end_of_time) others

latest_early : (now : ℕ) (others : List ℕ) → now + 1 < end_of_time → Early others → latest now others + 1 < end_of_time
latest_early now [] own all = own
latest_early now (time ∷ times) own all = latest_early (max now time) times (omega (arith, own, all.0)) all.1

now_early : (now : ℕ) (others : List ℕ) → latest now others + 1 < end_of_time → now + 1 < end_of_time
now_early now [] h = h
now_early now (time ∷ times) h = omega (arith, now_early (max now time) times h)

others_early : (now : ℕ) (others : List ℕ) → latest now others + 1 < end_of_time → Early others
others_early now [] h = tt
others_early now (time ∷ times) h = (omega (arith, now_early (max now time) times h), others_early (max now time) times h)

less_is : (a b : ℕ) → nat_lt a b ≡ true → a < b
less_is a b h = search (arith, rules, h)

less_true : (a b : ℕ) → a < b → nat_lt a b ≡ true
less_true a b h = search (arith, rules)

pub has_next_is : HasNext
has_next_is now others = (
  λ h. let lt = less_is (latest now others + 1) end_of_time h in (now_early now others lt, others_early now others lt),
  λ h. less_true (latest now others + 1) end_of_time (latest_early now others h.0 h.1),
)
