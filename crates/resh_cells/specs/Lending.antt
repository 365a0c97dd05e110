-- What a list of cells ends as, once a reference to one of them has ended.
use Rattle.std.specs.Prelude.{ℕ, List, Option, slice_set}
use Rattle.std.specs.Borrow.{Fml, LendsIf, MutBor, RattleType}
use Rattle.resh_cells.specs.contracts.cells.Cells.{the_row}

-- the last value behind the reference stands at its place
abbrev pub LendsCell : (T : RattleType) → MutBor (List T.Denot) → ℕ → Option (MutBor T.Denot) → Fml
LendsCell T cells place r = LendsIf (the_row T) T cells r (λ w. slice_set cells.now place w) cells.now
