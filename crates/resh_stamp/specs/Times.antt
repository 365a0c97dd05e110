-- The order of stamps and marks, and the time of the next event.
use Rattle.std.specs.Prelude.{ℕ, Bool, ◌+◌, ◌-◌, ◌^◌, max, nat_lt, List, [], ◌∷◌}
use Rattle.std.specs.Ordering.{nat_cmp, ordering_then}
use Rattle.std.specs.declared.cmp.Ordering.{Ordering}
use Rattle.resh_stamp.specs.declared.stamp.Stamp.{Stamp}
use Rattle.resh_stamp.specs.declared.stamp.Mark.{Mark}

-- stamps are ordered by time, then by node
abbrev pub stamp_cmp : Stamp → Stamp → Ordering
stamp_cmp a b = ordering_then (nat_cmp a.time b.time) (nat_cmp a.node b.node)

-- marks are ordered by stamp, then by part
abbrev pub mark_cmp : Mark → Mark → Ordering
mark_cmp a b = ordering_then (stamp_cmp a.stamp b.stamp) (nat_cmp a.part b.part)

-- the greatest mark of a time
abbrev pub last_mark_of : ℕ → Mark
last_mark_of time = record { stamp = record { time = time; node = 2 ^ 32 - 1 }; part = 2 ^ 32 - 1 }

-- times stay below this
abbrev pub end_of_time : ℕ
end_of_time = 2 ^ 62

abbrev pub latest : ℕ → List ℕ → ℕ
latest now [] = now
latest now (time ∷ times) = latest (max now time) times

-- one more than the latest of the clock's own time and the others
abbrev pub next_time : ℕ → List ℕ → ℕ
next_time now others = latest now others + 1

-- an event on a clock and on others has a time
abbrev pub has_next : ℕ → List ℕ → Bool
has_next now others = nat_lt (next_time now others) end_of_time
