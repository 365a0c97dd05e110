-- Keys, bounds and chunks in order.
use Rattle.std.specs.Prelude.{◌≡◌, ℕ, ◌+◌, ◌≤◌, Bool, true, false, not, ◌&&◌, ◌||◌, nat_lt, List, length, slice_get, Some}
use Rattle.std.specs.Ordering.{is_lt, is_gt}
use Rattle.std.specs.Cmp.Lexicographic.{slice_cmp}
use Rattle.std.specs.declared.cmp.Ordering.{Ordering}
use Rattle.std.specs.declared.cmp.Ordering.TheVariants.{Less, Equal, Greater}
use Rattle.resh_value.specs.Order.{compare_of}
use Rattle.resh_value.specs.declared.value.Value.{Value}
use Rattle.resh_chunks.specs.declared.bound.Bound.{Bound}
use Rattle.resh_chunks.specs.declared.bound.Bound.TheVariants.{Min, At, Max}
use Rattle.resh_chunks.specs.declared.bound.ChunkRow.{ChunkRow}

-- keys are compared value by value, and the one that ends first is less
abbrev pub key_cmp : List Value → List Value → Ordering
key_cmp = slice_cmp compare_of

-- a bound of few values stands before every key that it begins
abbrev pub bound_cmp : Bound → Bound → Ordering
bound_cmp Min Min = Equal
bound_cmp Min (At k) = Less
bound_cmp Min Max = Less
bound_cmp (At j) Min = Greater
bound_cmp (At j) (At k) = key_cmp j k
bound_cmp (At j) Max = Less
bound_cmp Max Min = Greater
bound_cmp Max (At k) = Greater
bound_cmp Max Max = Equal

-- no value, or more than there are names
abbrev pub has_wrong_length : ℕ → Bound → Bool
has_wrong_length names Min = false
has_wrong_length names (At key) = nat_lt (length key) 1 || nat_lt names (length key)
has_wrong_length names Max = false

-- the upper bound stands above the key
abbrev pub ends_above : List Value → ChunkRow → Bool
ends_above key row = is_lt (bound_cmp (At key) row.max)

-- the lower bound doesn't stand above the key, and the upper one does
abbrev pub has_key : List Value → ChunkRow → Bool
has_key key row = not (is_gt (bound_cmp row.min (At key))) && ends_above key row

-- the row at a place ends above the key, or no row is there, and the row before it doesn't
pub record IsFirstAbove (key : List Value) (rows : List ChunkRow) (place : ℕ) : Type 0 where
  pub within : place ≤ length rows
  pub before : (k : ℕ) (row : ChunkRow) → k + 1 ≡ place → slice_get rows k ≡ Some row → ends_above key row ≡ false
  pub above : (row : ChunkRow) → slice_get rows place ≡ Some row → ends_above key row ≡ true
