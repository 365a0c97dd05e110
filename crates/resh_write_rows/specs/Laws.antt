-- A write of a shard keeps the invariant.
use Rattle.std.specs.Prelude.{◌≡◌, ◌<◌, ◌^◌, ℕ, false, length}
use Rattle.resh_bag.specs.Bag.{Bag}
use Rattle.resh_cells.specs.Cells.{shard_in}
use Rattle.resh_cells.specs.Clocks.{clock_of}
use Rattle.resh_cells.specs.declared.cell.Cell.TheVariants as cell
use Rattle.resh_cells.specs.declared.cluster.Clocks.{Clocks}
use Rattle.resh_cells.specs.declared.cluster.Cluster.{Cluster}
use Rattle.resh_model.specs.Orders.{State}
use Rattle.resh_setup.specs.Validity.{IsValid}
use Rattle.resh_setup.specs.declared.setup.Setup.{Setup}
use Rattle.resh_shard.specs.Shards.{Shard}
use Rattle.resh_stamp.specs.declared.stamp.Stamp.{Stamp}
use Rattle.resh_invariant.specs.Frames.{AreLater, with_shard}
use Rattle.resh_invariant.specs.Keeping.{Keeps}
use Rattle.resh_invariant.specs.Sources.{Clones}
use Rattle.resh_write_rows.specs.Owned.{HoldsAfter, IsOwnWrite}

-- the cluster with what a shard holds changed, and clocks
abbrev pub with_written : ℕ → Shard → Clocks → Cluster → Cluster
with_written s after clocks cluster = with_shard s (record (shard_in cluster s) { shard = after }) clocks cluster

-- a shard that isn't blocked makes a write of its own by an event later than its clock, to whose time its clock is set
abbrev pub WriteKeeps : Type 0
WriteKeeps = (setup : Setup) (state : State) (clones : Clones) (cluster : Cluster) (s : ℕ) (stamp : Stamp)
    (clocks : Clocks) (after : Shard) (bag : Bag) → IsValid setup
    → Keeps setup state clones cluster → AreLater cluster.clocks clocks → s < length setup.shards
    → (shard_in cluster s).shard.blocked ≡ false
    → clock_of cluster.clocks (cell.Shard s) < stamp.time → clock_of clocks (cell.Shard s) ≡ stamp.time
    → stamp.node < 2 ^ 32 → IsOwnWrite setup.old_map s stamp (shard_in cluster s).shard after
    → HoldsAfter state s after bag
    → (later : Clones) × Keeps setup (record state { bag = bag }) later (with_written s after clocks cluster)
