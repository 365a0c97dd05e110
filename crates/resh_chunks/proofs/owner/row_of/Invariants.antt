use Rattle.std.proofs.Common.{◌≡◌, ◌≤◌, ◌+◌, ◌-◌, ℕ, length, Some, true, false}
use Rattle.std.specs.List.{slice_get}
use Rattle.resh_chunks.specs.Bounds.{ends_above}
use Rattle.resh_chunks.specs.declared.bound.ChunkRow.{ChunkRow}
use Rattle.resh_chunks.proofs.owner.row_of.Given as goal

abbrev pub invariant-loop-low : goal.invariant-loop-low
invariant-loop-low g l = record {
  ordered : l.low ≤ l.high;
  within : l.high ≤ length l.rows;
  before : (k : ℕ) (row : ChunkRow) → k + 1 ≡ l.low → slice_get l.rows k ≡ Some row → ends_above (g.K.Keyed.key l.key) row ≡ false;
  above : (row : ChunkRow) → slice_get l.rows l.high ≡ Some row → ends_above (g.K.Keyed.key l.key) row ≡ true;
}

abbrev pub decreases-loop-low : goal.decreases-loop-low
decreases-loop-low g l = l.high - l.low
