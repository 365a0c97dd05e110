-- What holds of stamps, marks and times.
use Rattle.std.specs.Prelude.{◌≡◌, ◌<◌, ◌+◌, ◌^◌, ◌↔◌, ℕ, true, nat_lt, List}
use Rattle.std.specs.Cmp.{IsTotalOrder}
use Rattle.std.specs.List.{AllByRecursion}
use Rattle.std.specs.Ordering.{is_lt}
use Rattle.std.specs.declared.cmp.Ordering.{Ordering}
use Rattle.std.specs.declared.cmp.Ordering.TheVariants.{Equal}
use Rattle.resh_stamp.specs.Times.{end_of_time, has_next, last_mark_of, mark_cmp}
use Rattle.resh_stamp.specs.declared.stamp.Mark.{Mark}

-- an order in which no two are alike
pub record IsStrictOrder {K : Type 0} (compare : K → K → Ordering) : Type 0 where
  pub total : IsTotalOrder compare
  pub same : (a b : K) → compare a b ≡ Equal → a ≡ b

-- a mark's node and part are numbers of 32 bits
pub record IsMark (mark : Mark) : Type 0 where
  pub node : mark.stamp.node < 2 ^ 32
  pub part : mark.part < 2 ^ 32

-- the marks above the last one of a time are those of a later time
abbrev pub TimesEnd : Type 0
TimesEnd = (time : ℕ) (mark : Mark) → IsMark mark
    → is_lt (mark_cmp (last_mark_of time) mark) ≡ nat_lt time mark.stamp.time

-- an event has a time exactly where it follows each clock before the end of time
abbrev pub HasNext : Type 0
HasNext = (now : ℕ) (others : List ℕ)
    → (has_next now others ≡ true) ↔ ((now + 1 < end_of_time) × AllByRecursion (λ time. time + 1 < end_of_time) others)
