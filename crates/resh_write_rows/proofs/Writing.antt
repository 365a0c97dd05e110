-- A shard that isn't blocked makes a write of its own.
use Rattle.std.proofs.Common.{◌≡◌, ◌≢◌, ◌≤◌, ◌<◌, ◌^◌, ◌==◌, ⊎_elim, ℕ, Bool, true, false, cond, List, length, refl, sym, ap, ◌∙◌, arith}
use Rattle.std.proofs.lemmas.Bool.Decides.{eqb_tells}
use Rattle.resh_bag.specs.Bag.{Bag}
use Rattle.resh_cells.specs.Cells.{lanes_of, shard_in}
use Rattle.resh_cells.specs.Clocks.{clock_of}
use Rattle.resh_cells.specs.declared.cell.Cell.TheVariants as cell
use Rattle.resh_cells.specs.declared.cluster.Clocks.{Clocks}
use Rattle.resh_cells.specs.declared.cluster.Cluster.{Cluster}
use Rattle.resh_cells.specs.declared.cluster.ShardCell.{ShardCell}
use Rattle.resh_coord.specs.Control.{is_true_at}
use Rattle.resh_feed.specs.Items.{Document}
use Rattle.resh_feed.proofs.LaneFeeding.{same_number}
use Rattle.resh_fetcher.specs.Laws.{StandsOn}
use Rattle.resh_model.specs.Orders.{State}
use Rattle.resh_place.specs.Lanes.{held_in}
use Rattle.resh_progress.specs.Kinds.{ToDonate}
use Rattle.resh_progress.specs.Tellings.{has}
use Rattle.resh_setup.specs.declared.setup.Setup.{Setup}
use Rattle.resh_shard.specs.Shards.{wrote}
use Rattle.resh_shard.specs.declared.act.Which.TheVariants.{Old}
use Rattle.resh_shard.specs.declared.act.Write.{Write}
use Rattle.resh_stamp.specs.declared.stamp.Stamp.{Stamp}
use Rattle.resh_story.specs.Writing.{IsWriteAt}
use Rattle.resh_versions.specs.Standing.{now}
use Rattle.resh_invariant.specs.Courses.{course_of}
use Rattle.resh_invariant.specs.Donors.{IsDonorKept}
use Rattle.resh_invariant.specs.Frames.{AreLater, Grows}
use Rattle.resh_invariant.specs.Keeping.{HoldsPlace, Keeps}
use Rattle.resh_invariant.specs.Sources.{Clones, source_by, sources_of}
use Rattle.resh_invariant.proofs.Framing.{shard_keeps}
use Rattle.resh_invariant.proofs.Waiting.{donor_waits}
use Rattle.resh_write_rows.specs.Laws.{with_written}
use Rattle.resh_write_rows.specs.Owned.{AreOwn, HoldsAfter}
use Rattle.resh_write_rows.proofs.Donating.{donor_writes, is_later, told_after, told_alike, unsealed}
use Rattle.resh_write_rows.proofs.Serving.{not_moving}
use Rattle.resh_write_rows.proofs.Telling.{tells_else, tells_more, written_cell}

same_time : (n : ℕ) → n ≤ n
same_time n = omega arith

module _ (stands : StandsOn) (setup : Setup) (state : State) (clones : Clones) (cluster : Cluster) (keeps : Keeps setup state clones cluster)
    (s : ℕ) (s_in : s < length setup.shards) (free : (shard_in cluster s).shard.blocked ≡ false) (stamp : Stamp) (clocks : Clocks) (rise : AreLater cluster.clocks clocks)
    (lt : clock_of cluster.clocks (cell.Shard s) < stamp.time) (set : clock_of clocks (cell.Shard s) ≡ stamp.time) (node : stamp.node < 2 ^ 32)
    (part : ℕ) (w : Write) (few : part ≤ 1) (acts : IsWriteAt (shard_in cluster s).shard w)
    (own : (shard_in cluster s).shard.which ≡ Old → AreOwn setup.old_map s w) (bag : Bag)
    (holds : HoldsAfter state s (wrote stamp part w (shard_in cluster s).shard) bag) where
  kept : IsDonorKept setup s (course_of cluster.control) (is_true_at cluster.control.told s) (clock_of cluster.clocks cell.Coordinator)
      (clones s) (clock_of cluster.clocks (cell.Shard s)) (shard_in cluster s)
  kept = keeps.donors s s_in

  abbrev next : ShardCell
  next = written_cell stamp part w (shard_in cluster s)

  -- the documents of the fetch time as its versions tell them, and the others'
  abbrev told : ℕ → List Document
  told = told_after (wrote stamp part w (shard_in cluster s).shard) cluster.control.fetch_time (clones s)

  abbrev later : Clones
  later d r = cond (d == s) (told r) (clones d r)

  own_told : (r : ℕ) → later s r ≡ told r
  own_told r = ap (λ t. cond t (told r) (clones s r)) (same_number s)

  others_told : (d r : ℕ) → d ≢ s → later d r ≡ clones d r
  others_told d r ne = ⊎_elim (λ k. absurd (ne k.1)) (λ k. ap (λ t. cond t (told r) (clones d r)) k.0) (eqb_tells d s)

  donor_kept : IsDonorKept setup s (course_of cluster.control) (is_true_at cluster.control.told s) (clock_of clocks cell.Coordinator)
      (later s) (clock_of clocks (cell.Shard s)) next
  donor_kept =
      donor_waits setup s (course_of cluster.control) (is_true_at cluster.control.told s) (clock_of clocks cell.Coordinator) (clock_of clocks cell.Coordinator)
      told (later s) (clock_of clocks (cell.Shard s)) (clock_of clocks (cell.Shard s)) next
      (same_time (clock_of clocks cell.Coordinator)) (same_time (clock_of clocks (cell.Shard s))) (λ r r_in. own_told r)
      (donor_writes setup s (course_of cluster.control) (is_true_at cluster.control.told s) (clock_of cluster.clocks cell.Coordinator) (clones s)
      (clock_of cluster.clocks (cell.Shard s)) (shard_in cluster s) kept stamp lt part w acts own state.fate keeps.decided.stage few free
      (clock_of clocks cell.Coordinator) (rise.rise cell.Coordinator) (clock_of clocks (cell.Shard s)) set node)

  -- what it tells a recipient
  tells : (r : ℕ) → r < length setup.shards → Grows (sources_of clones cluster r s) (source_by cluster.control.fetch_time next (later s r) r)
  tells r r_in = by (has (shard_in cluster s).donor.told ToDonate) refl
    where
      by : (t : Bool) → has (shard_in cluster s).donor.told ToDonate ≡ t
          → Grows (sources_of clones cluster r s) (source_by cluster.control.fetch_time next (later s r) r)
      by true on =
          let early : cluster.control.fetch_time < stamp.time =
          is_later setup s (course_of cluster.control) (is_true_at cluster.control.told s) (clock_of cluster.clocks cell.Coordinator) (clones s)
          (clock_of cluster.clocks (cell.Shard s)) (shard_in cluster s) kept stamp lt part w acts on in
          tells_more stamp part w (shard_in cluster s) cluster.control.fetch_time r early (clones s r) (later s r)
          (own_told r ∙ told_alike setup s (course_of cluster.control) (is_true_at cluster.control.told s) (clock_of cluster.clocks cell.Coordinator) (clones s)
          (clock_of cluster.clocks (cell.Shard s)) (shard_in cluster s) kept stamp lt part w acts early r r_in)
      by false off =
          tells_else stamp part w (shard_in cluster s) cluster.control.fetch_time r (clones s r) (later s r) off
          (unsealed setup s (course_of cluster.control) (is_true_at cluster.control.told s) (clock_of cluster.clocks cell.Coordinator) (clones s)
          (clock_of cluster.clocks (cell.Shard s)) (shard_in cluster s) kept stamp lt part w acts off)

  holds_place : HoldsPlace setup cluster.control.phase next (lanes_of cluster s) bag s
  holds_place id =
      ap (λ t. cond t (held_in setup.lanes (lanes_of cluster s) id).output (now next.shard.versions id))
      (not_moving cluster.control.phase cluster.control.decision (is_true_at cluster.control.told s) (shard_in cluster s).donor kept.donor (sym kept.serves.blocked ∙ free))
      ∙ holds.here id

  pub written_keeps : (later : Clones) × Keeps setup (record state { bag = bag }) later (with_written s (wrote stamp part w (shard_in cluster s).shard) clocks cluster)
  written_keeps = (
    later,
    shard_keeps stands setup state clones later cluster s next clocks bag keeps rise s_in (record {
      placed = holds.placed;
      whole = holds.whole;
      count = keeps.noted.told;
      marks = λ d ne. refl;
      donor = donor_kept;
      others = others_told;
      grows = tells;
      own = keeps.recipients s s_in;
      contents = holds_place;
      elsewhere = holds.elsewhere;
    }),
  )
