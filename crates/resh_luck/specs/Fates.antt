-- What a luck answers: its rows, how many calls of each kind it has had, and the answers to its next calls.
use Rattle.std.specs.Prelude.{ℕ, ◌+◌, ◌-◌, ◌^◌, ◌≤◌, Bool, true, false, ◌&&◌, nat_le, nat_lt, min, cond, List, find, Option, Some, None, zero, suc}
use Rattle.std.specs.Option.{option_map_or}
use Rattle.resh_luck.specs.declared.row.Kind.{Kind}
use Rattle.resh_luck.specs.declared.row.Kind.TheVariants.{Commit, Deliver}
use Rattle.resh_luck.specs.declared.row.PlanFate.{PlanFate}
use Rattle.resh_luck.specs.declared.row.PlanFate.TheVariants as plan
use Rattle.resh_luck.specs.declared.row.PlanRow.{PlanRow}
use Rattle.resh_luck.specs.declared.fate.Fate.{Fate}
use Rattle.resh_luck.specs.declared.fate.Fate.TheVariants as fate
use Rattle.resh_luck.specs.declared.fate.Delivery.{Delivery}
use Rattle.resh_luck.specs.declared.fate.Delivery.TheVariants as delivery

-- one more, up to 2^64 - 1
abbrev pub next_count : ℕ → ℕ
next_count n = cond (nat_lt n (2 ^ 64 - 1)) (n + 1) n

-- the rows, and the number of calls of each kind so far
pub record Told : Type 0 where
  pub rows : List PlanRow
  pub commits : ℕ
  pub deliveries : ℕ

abbrev pub same_kind : Kind → Kind → Bool
same_kind Commit Commit = true
same_kind Commit Deliver = false
same_kind Deliver Commit = false
same_kind Deliver Deliver = true

-- the row speaks of the k-th call of this kind, counted from 1
abbrev pub has_call : Kind → ℕ → PlanRow → Bool
has_call kind k row = same_kind row.kind kind && nat_le row.first k && nat_le k row.last

-- what the first row that has it says of the k-th call
unfoldable pub met : List PlanRow → Kind → ℕ → Option PlanFate
met rows kind k = option_map_or (λ row. Some row.fate) (find (has_call kind k) rows) None

-- a row whose fate doesn't fit its kind says nothing
abbrev pub as_fate : Option PlanFate → Fate
as_fate (Some plan.CrashedBefore) = fate.CrashedBefore
as_fate (Some plan.CrashedAfter) = fate.CrashedAfter
as_fate (Some plan.Failed) = fate.Failed
as_fate other = fate.Kept

abbrev pub as_delivery : Option PlanFate → Delivery
as_delivery (Some plan.Lost) = delivery.Lost
as_delivery (Some plan.Twice) = delivery.Twice
as_delivery other = delivery.Once

-- the answer to the next call of each kind, and what is told after it; a row names calls up to 2^32 - 1
abbrev pub next_fate : Told → Fate
next_fate t =
    cond (nat_lt t.commits (2 ^ 32)) (as_fate (met t.rows Commit (t.commits + 1))) fate.Kept

abbrev pub next_delivery : Told → Delivery
next_delivery t =
    cond (nat_lt t.deliveries (2 ^ 32)) (as_delivery (met t.rows Deliver (t.deliveries + 1))) delivery.Once

abbrev pub after_commit : Told → Told
after_commit t = record t { commits = next_count t.commits }

abbrev pub after_delivery : Told → Told
after_delivery t = record t { deliveries = next_count t.deliveries }

abbrev pub is_lost : Delivery → Bool
is_lost delivery.Once = false
is_lost delivery.Lost = true
is_lost delivery.Twice = false

-- how often a luck crashed, failed and lost
pub record Counts : Type 0 where
  pub losses : ℕ
  pub crashes : ℕ
  pub failures : ℕ

abbrev pub no_counts : Counts
no_counts = record { losses = 0; crashes = 0; failures = 0 }

abbrev pub no_calls : List PlanRow → Told
no_calls rows = record { rows = rows; commits = 0; deliveries = 0 }

-- no count has fallen
pub record HasRisen (before now : Counts) : Type 0 where
  pub losses : before.losses ≤ now.losses
  pub crashes : before.crashes ≤ now.crashes
  pub failures : before.failures ≤ now.failures

-- the count is higher, or at its end
abbrev pub Rose : ℕ → ℕ → Type 0
Rose before now = next_count before ≤ now

-- an answer other than `Kept` comes only where its count rose
abbrev pub FateRose : Fate → Counts → Counts → Type 0
FateRose fate.Kept before now = Unit {0}
FateRose fate.CrashedBefore before now = Rose before.crashes now.crashes
FateRose fate.CrashedAfter before now = Rose before.crashes now.crashes
FateRose fate.Failed before now = Rose before.failures now.failures

abbrev pub DeliveryRose : Delivery → Counts → Counts → Type 0
DeliveryRose delivery.Once before now = Unit {0}
DeliveryRose delivery.Lost before now = Rose before.losses now.losses
DeliveryRose delivery.Twice before now = Unit {0}

-- what is told after the calls of one delivery: the first of at most n that isn't lost ends it
unfoldable pub after_tries : ℕ → Told → Told
after_tries zero t = t
after_tries (suc n) t = cond (is_lost (next_delivery t)) (after_tries n (after_delivery t)) (after_delivery t)

-- the next n are lost
unfoldable pub loses : ℕ → Told → Bool
loses zero t = true
loses (suc n) t = is_lost (next_delivery t) && loses n (after_delivery t)

-- n more, up to 2^64 - 1
abbrev pub plus_count : ℕ → ℕ → ℕ
plus_count n k = min (n + k) (2 ^ 64 - 1)
