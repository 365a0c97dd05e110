-- The coordinator tells a shard what its phase has to say: to prepare, to donate, to block, to install or to release.
use Rattle.std.specs.Prelude.{ℕ, Bool, true, not, ◌&&◌, List, ◌∷◌, ◌++◌, length, map, Option, Some, None}
use Rattle.std.specs.FinMap.{values}
use Rattle.std.specs.List.{flat_map}
use Rattle.resh_stamp.specs.declared.stamp.Stamp.{Stamp}
use Rattle.resh_lane.specs.Lanes as lane
use Rattle.resh_progress.specs.Kinds.{kind_of}
use Rattle.resh_progress.specs.declared.message.Message.{Message}
use Rattle.resh_progress.specs.declared.message.Message.TheVariants.{Prepare, Donate, Block, Install, Release}
use Rattle.resh_donor.specs.States as donor
use Rattle.resh_recip.specs.States as recipient
use Rattle.resh_fetcher.specs.Links as link
use Rattle.resh_coord.specs.Control.{is_true_at, may_tell, message_of, with_told}
use Rattle.resh_bag.specs.Bag.{Document}
use Rattle.resh_shard.specs.Shards.{Shard, blocked_at, installed, prepared, pruned_to, released}
use Rattle.resh_setup.specs.declared.setup.Setup.{Setup}
use Rattle.resh_cells.specs.Cells.{lanes_of, on_control, on_links, on_shard, with_lanes, with_shard}
use Rattle.resh_cells.specs.declared.cluster.Cluster.{Cluster}
use Rattle.resh_cells.specs.declared.cluster.ShardCell.{ShardCell}
use Rattle.resh_cells.specs.Clocks.{lane_cells, link_cells}
use Rattle.resh_cells.specs.declared.cell.Cell.{Cell}
use Rattle.resh_cells.specs.declared.cell.Cell.TheVariants as named
use Rattle.resh_setup.specs.declared.seen.Seen.{Seen}
use Rattle.resh_setup.specs.declared.seen.Seen.TheVariants.{Idle, Prepared, Donating, Blocked, Installed, Released}

-- there is a message, and the shard wasn't told in this phase
abbrev pub may : Cluster → ℕ → Bool
may cluster s = may_tell cluster.control s && not (is_true_at cluster.control.told s)

abbrev pub on_donor : Message → ShardCell → ShardCell
on_donor message cell = record cell { donor = donor.after cell.donor (kind_of message) }

-- both machines are told
abbrev pub on_both : Message → ShardCell → ShardCell
on_both message cell = record (on_donor message cell) { recipient = recipient.after cell.recipient (kind_of message) }

-- the documents of the lanes' outputs
abbrev pub outputs : List lane.LaneOf → List Document
outputs lanes = flat_map (λ (l : lane.LaneOf). values l.pool.output) lanes

abbrev pub on_lanes : ℕ → (lane.LaneOf → lane.LaneOf) → Cluster → Cluster
on_lanes r f cluster = with_lanes r (map f (lanes_of cluster r)) cluster

-- a shard's links closed and its lanes emptied
abbrev pub ended : ℕ → Cluster → Cluster
ended s cluster = on_links s link.closed (on_lanes s lane.emptied cluster)

-- its entries name recipients
abbrev pub prepare : ℕ → Cluster → Cluster
prepare s cluster = on_shard s (λ cell. with_shard prepared (on_donor Prepare cell)) cluster

-- no reading before the fetch time comes any more; its links and lanes start
abbrev pub donate : ℕ → ℕ → Cluster → Cluster
donate fetch_time s cluster =
    on_shard s (λ cell. with_shard (pruned_to fetch_time) (on_both (Donate fetch_time) cell))
    (on_links s (λ l. link.started l fetch_time) (on_lanes s (lane.with_started true) cluster))

-- its writes are blocked, and a final entry is logged for each shard
abbrev pub block : Stamp → ℕ → Cluster → Cluster
block stamp s cluster = on_shard s (λ cell. with_shard (blocked_at stamp) (on_donor Block cell)) cluster

-- it holds its lanes' outputs and serves under the new map; no reading before this time comes any more
abbrev pub with_outputs : ℕ → List Document → Shard → Shard
with_outputs time documents shard = pruned_to time (installed time documents shard)

abbrev pub install : Stamp → ℕ → Cluster → Cluster
install stamp s cluster =
    let documents : List Document = outputs (lanes_of cluster s) in
    on_shard s (λ cell. with_shard (with_outputs stamp.time documents) (on_both Install cell)) (ended s cluster)

-- it goes on serving under the old map; no reading before this time comes any more
abbrev pub with_old_map : ℕ → Shard → Shard
with_old_map time shard = pruned_to time (released shard)

abbrev pub release : Stamp → ℕ → Cluster → Cluster
release stamp s cluster =
    on_shard s (λ cell. with_shard (with_old_map stamp.time) (on_both Release cell)) (ended s cluster)

abbrev pub told : Stamp → ℕ → Message → Cluster → Cluster
told stamp s Prepare cluster = prepare s cluster
told stamp s (Donate fetch_time) cluster = donate fetch_time s cluster
told stamp s Block cluster = block stamp s cluster
told stamp s Install cluster = install stamp s cluster
told stamp s Release cluster = release stamp s cluster

abbrev pub told_if : Stamp → ℕ → Option Message → Cluster → Cluster
told_if stamp s None cluster = cluster
told_if stamp s (Some message) cluster = on_control (with_told s) (told stamp s message cluster)

abbrev pub change : Stamp → Cluster → ℕ → Cluster
change stamp cluster s = told_if stamp s (message_of cluster.control) cluster

abbrev pub seen_of : Cluster → ℕ → Option Message → Seen
seen_of cluster s None = Idle
seen_of cluster s (Some Prepare) = Prepared
seen_of cluster s (Some (Donate fetch_time)) = Donating
seen_of cluster s (Some Block) = Blocked
seen_of cluster s (Some Install) = Installed (length (outputs (lanes_of cluster s)))
seen_of cluster s (Some Release) = Released

abbrev pub seen : Cluster → ℕ → Seen
seen cluster s = seen_of cluster s (message_of cluster.control)

-- the coordinator, the shard, and all lanes and links whose recipient it is
abbrev pub holds : Setup → ℕ → List Cell
holds setup s = named.Coordinator ∷ named.Shard s ∷ lane_cells setup s ++ link_cells setup s
