-- The clock of one shard, set.
use Rattle.std.proofs.Common.{◌≡◌, ◌≤◌, ◌<◌, ⊎_elim, ℕ, slice_index_or, slice_set, sym, ap, subst, ◌∙◌, arith}
use Rattle.resh_cells.specs.Clocks.{clock_of}
use Rattle.resh_cells.specs.declared.cell.Cell.{Cell}
use Rattle.resh_cells.specs.declared.cell.Cell.TheVariants as cell
use Rattle.resh_cells.specs.declared.cluster.Clocks.{Clocks}
use Rattle.resh_keeping.proofs.Places.{length-set}
use Rattle.resh_invariant.specs.Frames.{AreLater}
use Rattle.resh_invariant.proofs.Ones.{at_set}

-- the clocks with a shard's set to a time
abbrev pub with_time : ℕ → ℕ → Clocks → Clocks
with_time s time clocks = record clocks { shards = slice_set clocks.shards s time }

same_time : (n : ℕ) → n ≤ n
same_time n = omega arith

not_after : (a b c : ℕ) → a ≡ b → c < b → c ≤ a
not_after a b c e lt = omega (arith, e, lt)

module _ (clocks : Clocks) (s time : ℕ) (before : clock_of clocks (cell.Shard s) < time) where
  pub sets_later : AreLater clocks (with_time s time clocks)
  sets_later = record { count = length-set clocks.shards s time; rise = rise }
    where
      rise : (x : Cell) → clock_of clocks x ≤ clock_of (with_time s time clocks) x
      rise cell.Coordinator = same_time (clock_of clocks cell.Coordinator)
      rise (cell.Shard k) =
          ⊎_elim
          (λ (same : slice_index_or (slice_set clocks.shards s time) k 0 ≡ slice_index_or clocks.shards k 0).
          subst (λ n. slice_index_or clocks.shards k 0 ≤ n) (sym same) (same_time (slice_index_or clocks.shards k 0)))
          (λ (there : (k ≡ s) × (slice_index_or (slice_set clocks.shards s time) k 0 ≡ time)).
          not_after (slice_index_or (slice_set clocks.shards s time) k 0) time (slice_index_or clocks.shards k 0) there.1 (subst (λ n. slice_index_or clocks.shards n 0 < time) (sym there.0) before))
          (at_set clocks.shards s k time 0)
      rise (cell.Lane r l) = same_time (clock_of clocks (cell.Lane r l))
      rise (cell.Link r d) = same_time (clock_of clocks (cell.Link r d))
      rise (cell.Client c) = same_time (clock_of clocks (cell.Client c))

  -- clocks to which both are set are later still
  pub then_later : (after : Clocks) → AreLater clocks after → clock_of after (cell.Shard s) ≡ time → AreLater (with_time s time clocks) after
  then_later after later set = record { count = later.count ∙ sym (length-set clocks.shards s time); rise = rise }
    where
      rise : (x : Cell) → clock_of (with_time s time clocks) x ≤ clock_of after x
      rise cell.Coordinator = later.rise cell.Coordinator
      rise (cell.Shard k) =
          ⊎_elim
          (λ (same : slice_index_or (slice_set clocks.shards s time) k 0 ≡ slice_index_or clocks.shards k 0).
          subst (λ n. n ≤ clock_of after (cell.Shard k)) (sym same) (later.rise (cell.Shard k)))
          (λ (there : (k ≡ s) × (slice_index_or (slice_set clocks.shards s time) k 0 ≡ time)).
          subst (λ n. n ≤ clock_of after (cell.Shard k)) (sym there.1)
          (subst (λ n. time ≤ n) (sym (ap (λ n. clock_of after (cell.Shard n)) there.0 ∙ set)) (same_time time)))
          (at_set clocks.shards s k time 0)
      rise (cell.Lane r l) = later.rise (cell.Lane r l)
      rise (cell.Link r d) = later.rise (cell.Link r d)
      rise (cell.Client c) = later.rise (cell.Client c)
