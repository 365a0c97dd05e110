-- Every event keeps a cluster of its setup, whatever it met.
use Rattle.std.proofs.Common.{◌≡◌, ◌<◌, ℕ, ◌+◌, length, map, Option, refl, subst, slice_index_or}
use Rattle.std.specs.List.{range_with_len}
use native.Mathlib.Omega.{arith}
use Rattle.resh_bag.specs.Answer.{text_limit}
use Rattle.resh_oplog.specs.declared.piece.Piece.{Piece}
use Rattle.resh_stamp.specs.declared.stamp.Stamp.{Stamp}
use Rattle.resh_shard.specs.Shards.{opened}
use Rattle.resh_shard.specs.Writes.{shard_id}
use Rattle.resh_setup.specs.declared.event.Event.{Event}
use Rattle.resh_setup.specs.declared.event.Event.TheVariants.{Client, Begin, Tell, Retell, Advance, Clone, Fetch, Cut, Apply, Again, Record, Crash, Report, Fail}
use Rattle.resh_setup.specs.declared.plan.Who.TheVariants.{Coordinator, Link, Lane}
use Rattle.resh_setup.specs.declared.setup.Setup.{Setup}
use Rattle.resh_setup.specs.declared.trace.Met.TheVariants.{Row, CrashedBefore, CrashedAfter, Failed, Lost, NoMemory, NoMemoryInMove}
use Rattle.resh_cells.specs.Belonging.{IsClusterOf, IsShardOf}
use Rattle.resh_cells.specs.Cells.{no_shard}
use Rattle.resh_cells.specs.declared.cluster.Cluster.{Cluster}
use Rattle.resh_cells.specs.declared.cluster.ShardCell.{ShardCell}
use Rattle.resh_events.specs.Luck.{Asks, asks, quiet, commits, delivers, counted, wanting}
use Rattle.resh_events.specs.Opening.{documents_at, opening_shard}
use Rattle.resh_events.specs.Table.{change}
use Rattle.resh_keeping.specs.Laws.{ClocksKeep, Keeps, Opens}
use Rattle.resh_keeping.proofs.Places.{each_all, length-each}
use Rattle.resh_keeping.proofs.Rows.{again_keeps, apply_keeps, client_keeps, fail_keeps, report_keeps, same_shards, tell_keeps}
use Rattle.resh_keeping.proofs.Shards.{loaded_keeps}

no_more : (k : ℕ) → 0 + k ≡ k
no_more k = omega arith

opened_at : (setup : Setup) (s : ℕ) → IsShardOf setup s (opening_shard setup s).shard
opened_at setup s = loaded_keeps setup s (documents_at setup s) (opened (shard_id s) setup.old_map setup.new_map text_limit)
    (record { number = refl; old_map = refl; new_map = refl; limit = refl })

pub opens : Opens
opens setup =
    let many : length (map (opening_shard setup) (range_with_len 0 (length setup.shards))) ≡ length setup.shards
    = length-each (opening_shard setup) 0 (length setup.shards) in
    record {
      count = many;
      each = λ k lt. subst
          (λ n. IsShardOf setup n (slice_index_or (map (opening_shard setup) (range_with_len 0 (length setup.shards))) k no_shard).shard)
          (no_more k)
          (each_all (λ n (cell : ShardCell). IsShardOf setup n cell.shard) (opening_shard setup) no_shard 0 (length setup.shards)
          (opened_at setup) k (subst (λ n. k < n) many lt));
    }

module _ (setup : Setup) (stamp : Stamp) where
  pub row_keeps : (cluster : Cluster) (event : Event) (piece : Option Piece) → IsClusterOf setup cluster
      → IsClusterOf setup (change setup stamp cluster event piece)
  unfolding change
  row_keeps cluster (Client c) piece is = client_keeps setup cluster stamp c is
  row_keeps cluster Begin piece is = same_shards setup cluster _ refl is
  row_keeps cluster (Tell s) piece is = tell_keeps setup stamp cluster s.0 is
  row_keeps cluster (Retell s message) piece is = is
  row_keeps cluster Advance piece is = same_shards setup cluster _ refl is
  row_keeps cluster (Clone r d) piece is = same_shards setup cluster _ refl is
  row_keeps cluster (Fetch r d) piece is = same_shards setup cluster _ refl is
  row_keeps cluster (Cut r d) piece is = same_shards setup cluster _ refl is
  row_keeps cluster (Apply r d l) piece is = apply_keeps setup cluster r.0 d.0 l piece is
  row_keeps cluster (Again r d l position) piece is = again_keeps setup cluster r.0 d.0 l piece is
  row_keeps cluster (Record r d) piece is = same_shards setup cluster _ refl is
  row_keeps cluster (Crash r d) piece is = same_shards setup cluster _ refl is
  row_keeps cluster (Report r) piece is = report_keeps setup cluster r.0 is
  row_keeps cluster (Fail named cause) piece is = fail_keeps setup cluster named cause is

  counted_keeps : (asked : Asks) (cluster : Cluster) → IsClusterOf setup cluster
      → IsClusterOf setup (counted setup asked cluster)
  counted_keeps quiet cluster is = is
  counted_keeps (commits Coordinator) cluster is = same_shards setup cluster _ refl is
  counted_keeps (commits (Link r d)) cluster is = is
  counted_keeps (commits (Lane r d l)) cluster is = is
  counted_keeps (delivers who) cluster is = is

  wanting_keeps : (event : Event) (cluster : Cluster) → IsClusterOf setup cluster
      → IsClusterOf setup (wanting setup event cluster)
  wanting_keeps (Client c) cluster is = same_shards setup cluster _ refl is
  wanting_keeps other cluster is = is

pub keeps : Keeps
keeps setup stamp cluster event piece Row is = row_keeps setup stamp cluster event piece is
keeps setup stamp cluster event piece CrashedBefore is = counted_keeps setup stamp (asks cluster event piece) cluster is
keeps setup stamp cluster event piece CrashedAfter is =
    counted_keeps setup stamp (asks cluster event piece) (change setup stamp cluster event piece)
    (row_keeps setup stamp cluster event piece is)
keeps setup stamp cluster event piece Failed is = is
keeps setup stamp cluster event piece Lost is = is
keeps setup stamp cluster event piece NoMemory is = wanting_keeps setup stamp event cluster is
keeps setup stamp cluster event piece NoMemoryInMove is = wanting_keeps setup stamp event cluster is

pub clocks_keep : ClocksKeep
clocks_keep setup time cells cluster is = same_shards setup cluster _ refl is
