-- What keeps the invariant where the cells of one kind change: what has to be shown of them, and nothing of the others.
use Rattle.std.specs.Prelude.{◌≡◌, ◌≤◌, ◌<◌, ◌≢◌, ℕ, Bool, true, false, List, [], ◌++◌, length, None, slice_index_or, slice_set}
use Rattle.resh_value.specs.declared.value.Value.{Value}
use Rattle.resh_bag.specs.Bag.{Bag, IsPlaced, held}
use Rattle.resh_bag.specs.WholeLaws.{HoldsWhole}
use Rattle.resh_coord.specs.Control.{is_true_at}
use Rattle.resh_feed.specs.Items.{has_final}
use Rattle.resh_lane.specs.Lanes.{LaneOf}
use Rattle.resh_model.specs.Orders.{State, replies_to}
use Rattle.resh_oplog.specs.declared.entry.Entry.{Entry}
use Rattle.resh_setup.specs.declared.setup.Setup.{Setup}
use Rattle.resh_cells.specs.Cells.{lanes_of, links_of, shard_in}
use Rattle.resh_cells.specs.Clocks.{clock_of}
use Rattle.resh_cells.specs.declared.cell.Cell.{Cell}
use Rattle.resh_cells.specs.declared.cell.Cell.TheVariants as cell
use Rattle.resh_cells.specs.declared.cluster.ClientCell.{ClientCell}
use Rattle.resh_cells.specs.declared.cluster.Clocks.{Clocks}
use Rattle.resh_cells.specs.declared.cluster.Cluster.{Cluster}
use Rattle.resh_cells.specs.declared.cluster.LinkCell.{LinkCell}
use Rattle.resh_cells.specs.declared.cluster.ShardCell.{ShardCell}
use Rattle.resh_invariant.specs.Courses.{course_of}
use Rattle.resh_invariant.specs.Donors.{IsDonorKept}
use Rattle.resh_invariant.specs.Keeping.{HoldsPlace, IsClientKept, Keeps}
use Rattle.resh_invariant.specs.Recipients.{IsRecipientKept}
use Rattle.resh_invariant.specs.Sources.{Clones, Source, clones_after, source_by, sources_of}

-- a donor tells a recipient more: entries behind those that it told, and none behind a final one. A donor that wasn't
-- told the fetch time may tell something else.
pub data Grows (before now : Source) : Type 0 where
  longer : (more : List Entry) → (now.donating ≡ false → before.donating ≡ false) → now.documents ≡ before.documents
      → now.entries ≡ before.entries ++ more → (has_final before.entries ≡ true → more ≡ []) → Grows before now
  untold : before.donating ≡ false → has_final before.entries ≡ false → Grows before now

-- no clock goes back
pub record AreLater (before now : Clocks) : Type 0 where
  pub count : length now.shards ≡ length before.shards
  pub rise : (x : Cell) → clock_of before x ≤ clock_of now x

abbrev pub with_links : ℕ → List LinkCell → Cluster → Cluster
with_links r links cluster = record cluster { links = slice_set cluster.links r links }

abbrev pub with_lanes : ℕ → List LaneOf → Cluster → Cluster
with_lanes r lanes cluster = record cluster { lanes = slice_set cluster.lanes r lanes }

abbrev pub with_client : ℕ → ClientCell → Cluster → Cluster
with_client c cell cluster = record cluster { clients = slice_set cluster.clients c cell }

-- a shard with its links and its lanes, whether it was told, and all clocks
abbrev pub with_all : ℕ → List Bool → ShardCell → List LinkCell → List LaneOf → Clocks → Cluster → Cluster
with_all s told next links lanes clocks cluster = record cluster {
  control = record cluster.control { told = told };
  shards = slice_set cluster.shards s next;
  links = slice_set cluster.links s links;
  lanes = slice_set cluster.lanes s lanes;
  clocks = clocks;
}

abbrev pub with_shard : ℕ → ShardCell → Clocks → Cluster → Cluster
with_shard s next clocks cluster = record cluster { shards = slice_set cluster.shards s next; clocks = clocks }

-- what a recipient's rows of cells have to keep
abbrev pub KeepsRows : Setup → Clones → Cluster → ℕ → List LinkCell → List LaneOf → Type 0
KeepsRows setup clones cluster r links lanes =
    IsRecipientKept setup r (course_of cluster.control) (is_true_at cluster.control.reported r)
    (slice_index_or cluster.control.clashes r None) (shard_in cluster r).donor (sources_of clones cluster r) links lanes

-- what a shard that changes has to keep, with its clock: itself, what it tells others, and its own links and lanes
pub record KeepsShard (setup : Setup) (state : State) (clones later : Clones) (cluster : Cluster) (s : ℕ)
    (told : List Bool) (next : ShardCell) (links : List LinkCell) (lanes : List LaneOf) (clocks : Clocks) (bag : Bag)
    : Type 0 where
  pub placed : IsPlaced state.map bag
  pub whole : HoldsWhole bag
  pub count : length told ≡ length setup.shards
  pub marks : (d : ℕ) → d ≢ s → is_true_at told d ≡ is_true_at cluster.control.told d
  pub donor : IsDonorKept setup s (course_of cluster.control) (is_true_at told s) (clock_of clocks cell.Coordinator)
      (later s) (clock_of clocks (cell.Shard s)) next
  pub others : (d r : ℕ) → d ≢ s → later d r ≡ clones d r
  pub grows : (r : ℕ) → r < length setup.shards → Grows (sources_of clones cluster r s)
      (source_by cluster.control.fetch_time next (later s r) r)
  pub own : IsRecipientKept setup s (course_of cluster.control) (is_true_at cluster.control.reported s)
      (slice_index_or cluster.control.clashes s None) next.donor (sources_of clones cluster s) links lanes
  pub contents : HoldsPlace setup cluster.control.phase next lanes bag s
  pub elsewhere : (d : ℕ) → d ≢ s → (id : Value) → held bag d id ≡ held state.bag d id

-- the invariant by cells
pub record KeepsByCell : Type 0 where
  -- with later clocks
  pub waits : (setup : Setup) (state : State) (clones : Clones) (cluster : Cluster) (clocks : Clocks)
      → Keeps setup state clones cluster → AreLater cluster.clocks clocks
      → Keeps setup state clones (record cluster { clocks = clocks })
  -- with a recipient's links, or its lanes, changed
  pub links : (setup : Setup) (state : State) (clones : Clones) (cluster : Cluster) (r : ℕ) (links : List LinkCell)
      → Keeps setup state clones cluster
      → (r < length setup.shards → KeepsRows setup clones cluster r links (lanes_of cluster r))
      → Keeps setup state clones (with_links r links cluster)
  pub lanes : (setup : Setup) (state : State) (clones : Clones) (cluster : Cluster) (r : ℕ) (lanes : List LaneOf)
      → Keeps setup state clones cluster
      → (r < length setup.shards → KeepsRows setup clones cluster r (links_of cluster r) lanes)
      → (r < length setup.shards → HoldsPlace setup cluster.control.phase (shard_in cluster r) lanes state.bag r)
      → Keeps setup state clones (with_lanes r lanes cluster)
  -- with a client changed
  pub clients : (setup : Setup) (state : State) (clones : Clones) (cluster : Cluster) (c : ℕ) (next : ClientCell)
      → Keeps setup state clones cluster
      → (c < length setup.clients → IsClientKept cluster.control.decision (replies_to state c) next)
      → Keeps setup state clones (with_client c next cluster)
  -- with a shard changed that is told something, its links and its lanes, and clocks; or with a shard alone
  pub shards : (setup : Setup) (state : State) (clones later : Clones) (cluster : Cluster) (s : ℕ) (told : List Bool)
      (next : ShardCell) (links : List LinkCell) (lanes : List LaneOf) (clocks : Clocks) (bag : Bag)
      → Keeps setup state clones cluster → AreLater cluster.clocks clocks → s < length setup.shards
      → KeepsShard setup state clones later cluster s told next links lanes clocks bag
      → Keeps setup (record state { bag = bag }) later (with_all s told next links lanes clocks cluster)
  pub shard : (setup : Setup) (state : State) (clones later : Clones) (cluster : Cluster) (s : ℕ) (next : ShardCell)
      (clocks : Clocks) (bag : Bag)
      → Keeps setup state clones cluster → AreLater cluster.clocks clocks → s < length setup.shards
      → KeepsShard setup state clones later cluster s cluster.control.told next (links_of cluster s)
      (lanes_of cluster s) clocks bag
      → Keeps setup (record state { bag = bag }) later (with_shard s next clocks cluster)
  -- as the donors' versions tell the documents of the fetch time
  pub settles : (setup : Setup) (state : State) (clones : Clones) (cluster : Cluster) → Keeps setup state clones cluster
      → Keeps setup state (clones_after cluster clones) cluster
