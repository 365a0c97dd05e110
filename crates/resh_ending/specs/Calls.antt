-- The calls of a luck that are still to come, up to the greatest that a row names.
use Rattle.std.specs.Prelude.{ℕ, ◌+◌, ◌-◌, ◌<◌, ◌≤◌, max, List, [], ◌∷◌}
use Rattle.resh_luck.specs.Fates.{Told}
use Rattle.resh_luck.specs.declared.fate.Fate.{Fate}
use Rattle.resh_luck.specs.declared.fate.Fate.TheVariants.{Kept, CrashedBefore, CrashedAfter, Failed}
use Rattle.resh_luck.specs.declared.row.PlanRow.{PlanRow}

unfoldable pub greatest : List PlanRow → ℕ
greatest [] = 0
greatest (row ∷ rows) = max row.last (greatest rows)

unfoldable pub calls : Told → ℕ
calls told = (greatest told.rows - told.commits) + (greatest told.rows - told.deliveries)

-- an answer other than `Kept` uses one of them
abbrev pub FateCalls : Fate → ℕ → ℕ → Type 0
FateCalls Kept before now = now ≤ before
FateCalls CrashedBefore before now = now < before
FateCalls CrashedAfter before now = now < before
FateCalls Failed before now = now < before
