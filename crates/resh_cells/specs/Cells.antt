-- The cells of a cluster, read and changed: the coordinator, the shards, the lanes by recipient and lane, the links by
-- recipient and donor, the clients.
use Rattle.std.specs.Prelude.{ℕ, List, [], map, slice_index_or, slice_set}
use Rattle.resh_chunks.specs.Chunks.{Chunks}
use Rattle.resh_rules.specs.Pools.{empty_pool}
use Rattle.resh_lane.specs.Lanes as lane
use Rattle.resh_donor.specs.States as donor
use Rattle.resh_recip.specs.States as recipient
use Rattle.resh_fetcher.specs.Links.{LinkOf, fresh}
use Rattle.resh_coord.specs.Control.{Control}
use Rattle.resh_shard.specs.Shards.{Shard, opened}
use Rattle.resh_shard.specs.Writes.{shard_id}
use Rattle.resh_shard.specs.declared.act.Which.TheVariants.{Old}
use Rattle.resh_cells.specs.declared.cluster.ClientCell.{ClientCell}
use Rattle.resh_cells.specs.declared.cluster.Cluster.{Cluster}
use Rattle.resh_cells.specs.declared.cluster.LinkCell.{LinkCell}
use Rattle.resh_cells.specs.declared.cluster.ShardCell.{ShardCell}

-- what stands where no cell is
abbrev pub no_map : Chunks
no_map = record { pattern = []; rows = []; shards = 0 }

abbrev pub no_shard : ShardCell
no_shard = record {
  shard = opened (shard_id 0) no_map no_map 0;
  donor = donor.at_first;
  recipient = recipient.at_first;
}

abbrev pub no_lane : lane.LaneOf
no_lane = lane.fresh (empty_pool no_map 0) 0

abbrev pub no_link : LinkCell
no_link = record { link = fresh (shard_id 0) (shard_id 0) 0 0; sent = [] }

abbrev pub no_client : ClientCell
no_client = record { knows = Old; replies = [] }

-- one cell, or all lanes or all links of a recipient
abbrev pub shard_in : Cluster → ℕ → ShardCell
shard_in cluster s = slice_index_or cluster.shards s no_shard

abbrev pub lanes_of : Cluster → ℕ → List lane.LaneOf
lanes_of cluster r = slice_index_or cluster.lanes r []

abbrev pub lane_in : Cluster → ℕ → ℕ → lane.LaneOf
lane_in cluster r l = slice_index_or (lanes_of cluster r) l no_lane

abbrev pub links_of : Cluster → ℕ → List LinkCell
links_of cluster r = slice_index_or cluster.links r []

abbrev pub link_in : Cluster → ℕ → ℕ → LinkCell
link_in cluster r d = slice_index_or (links_of cluster r) d no_link

abbrev pub client_in : Cluster → ℕ → ClientCell
client_in cluster c = slice_index_or cluster.clients c no_client

-- one place of a list of lists, set
abbrev pub set_in : {X : Type 0} → List (List X) → ℕ → ℕ → X → List (List X)
set_in rows row place x = slice_set rows row (slice_set (slice_index_or rows row []) place x)

-- the cluster with one cell changed, or all lanes or all links of a recipient
abbrev pub on_control : (Control → Control) → Cluster → Cluster
on_control f cluster = record cluster { control = f cluster.control }

abbrev pub on_shard : ℕ → (ShardCell → ShardCell) → Cluster → Cluster
on_shard s f cluster = record cluster { shards = slice_set cluster.shards s (f (shard_in cluster s)) }

abbrev pub with_shard : (Shard → Shard) → ShardCell → ShardCell
with_shard f cell = record cell { shard = f cell.shard }

abbrev pub on_lane : ℕ → ℕ → (lane.LaneOf → lane.LaneOf) → Cluster → Cluster
on_lane r l f cluster = record cluster { lanes = set_in cluster.lanes r l (f (lane_in cluster r l)) }

abbrev pub with_lanes : ℕ → List lane.LaneOf → Cluster → Cluster
with_lanes r lanes cluster = record cluster { lanes = slice_set cluster.lanes r lanes }

abbrev pub with_link : (LinkOf → LinkOf) → LinkCell → LinkCell
with_link f cell = record cell { link = f cell.link }

abbrev pub on_link : ℕ → ℕ → (LinkOf → LinkOf) → Cluster → Cluster
on_link r d f cluster = record cluster { links = set_in cluster.links r d (with_link f (link_in cluster r d)) }

abbrev pub on_links : ℕ → (LinkOf → LinkOf) → Cluster → Cluster
on_links r f cluster =
    record cluster { links = slice_set cluster.links r (map (with_link f) (links_of cluster r)) }

abbrev pub on_client : ℕ → (ClientCell → ClientCell) → Cluster → Cluster
on_client c f cluster = record cluster { clients = slice_set cluster.clients c (f (client_in cluster c)) }
