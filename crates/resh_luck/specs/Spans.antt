-- What a planned luck keeps beside its rows.
use Rattle.std.specs.Prelude.{◌≡◌, ◌+◌, ◌<◌, ◌≤◌, ◌^◌, ℕ, cond, nat_lt, List, Option, None}
use Rattle.resh_luck.specs.Fates.{Counts, Told, met}
use Rattle.resh_luck.specs.declared.planned.Span.{Span}
use Rattle.resh_luck.specs.declared.row.Kind.{Kind}
use Rattle.resh_luck.specs.declared.row.Kind.TheVariants.{Commit, Deliver}
use Rattle.resh_luck.specs.declared.row.PlanFate.{PlanFate}
use Rattle.resh_luck.specs.declared.row.PlanRow.{PlanRow}

-- what is told, and the counts
pub record LuckOf : Type 0 where
  pub told : Told
  pub counts : Counts

abbrev pub told_of : List PlanRow → ℕ → ℕ → Told
told_of rows commits deliveries = record { rows = rows; commits = commits; deliveries = deliveries }

-- from a call on, up to the span's end, the rows say what the span says
abbrev pub IsSpan : List PlanRow → Kind → ℕ → Span → Type 0
IsSpan rows kind call span = (k : ℕ) → call ≤ k → k < span.until → met rows kind k ≡ span.fate

-- both spans are those of the next calls
pub record ArePlanned (told : Told) (next_commits next_deliveries : Span) : Type 0 where
  pub commits : IsSpan told.rows Commit (told.commits + 1) next_commits
  pub deliveries : IsSpan told.rows Deliver (told.deliveries + 1) next_deliveries

-- what the next call meets after so many; a row names calls up to 2^32 - 1
abbrev pub next_met : List PlanRow → Kind → ℕ → Option PlanFate
next_met rows kind found = cond (nat_lt found (2 ^ 32)) (met rows kind (found + 1)) None
