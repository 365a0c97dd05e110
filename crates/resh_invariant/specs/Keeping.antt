-- What every event keeps of a cluster, beside the state to which its order of turns was walked.
use Rattle.std.specs.Prelude.{◌≡◌, ◌≤◌, ◌<◌, ℕ, Bool, true, false, not, cond, List, length, Option, slice_index_or, None}
use Rattle.resh_value.specs.declared.value.Value.{Value}
use Rattle.resh_bag.specs.Bag.{Bag, IsPlaced, held}
use Rattle.resh_bag.specs.WholeLaws.{HoldsWhole}
use Rattle.resh_chunks.specs.Chunks.{Chunks}
use Rattle.resh_command.specs.declared.reply.Reply.{Reply}
use Rattle.resh_coord.specs.Control.{Control, is_true_at}
use Rattle.resh_coord.specs.declared.cause.End.{End}
use Rattle.resh_coord.specs.declared.phase.Phase.{Phase}
use Rattle.resh_coord.specs.declared.phase.Phase.TheVariants.{Committing}
use Rattle.resh_feed.specs.Items.{Document}
use Rattle.resh_lane.specs.Lanes.{LaneOf}
use Rattle.resh_model.specs.Orders.{State, replies_to}
use Rattle.resh_place.specs.Lanes.{held_in}
use Rattle.resh_progress.specs.Kinds.{ToInstall}
use Rattle.resh_progress.specs.Tellings.{has}
use Rattle.resh_setup.specs.declared.setup.Setup.{Setup}
use Rattle.resh_shard.specs.declared.act.Which.TheVariants.{New}
use Rattle.resh_versions.specs.Standing.{now}
use Rattle.resh_cells.specs.Cells.{client_in, lanes_of, links_of, shard_in}
use Rattle.resh_cells.specs.Clocks.{clock_of}
use Rattle.resh_cells.specs.declared.cell.Cell.TheVariants as cell
use Rattle.resh_cells.specs.declared.cluster.ClientCell.{ClientCell}
use Rattle.resh_cells.specs.declared.cluster.Cluster.{Cluster}
use Rattle.resh_cells.specs.declared.cluster.ShardCell.{ShardCell}
use Rattle.resh_invariant.specs.Courses.{Course, IsStage, course_of, is_committed}
use Rattle.resh_invariant.specs.Donors.{IsDonorKept}
use Rattle.resh_invariant.specs.Recipients.{IsRecipientKept}
use Rattle.resh_invariant.specs.Sources.{Clones, sources_of}

-- a mark for each shard that was told, for each that reported, and what each noted
pub record IsNoted (setup : Setup) (control : Control) : Type 0 where
  pub told : length control.told ≡ length setup.shards
  pub reported : length control.reported ≡ length setup.shards
  pub clashes : length control.clashes ≡ length setup.shards

-- the map in force
abbrev pub map_in_force : Setup → Bool → Chunks
map_in_force setup committed = cond committed setup.new_map setup.old_map

-- the state of the order is the coordinator's: what is decided, and the map in force, by which the collection is placed
pub record IsDecided (setup : Setup) (course : Course) (time : ℕ) (state : State) : Type 0 where
  pub stage : IsStage course.phase course.decision state.fate
  pub map : state.map ≡ map_in_force setup (is_committed course.decision)
  pub placed : IsPlaced state.map state.bag
  pub whole : HoldsWhole state.bag
  pub fetch : course.fetch_time ≤ time

-- a client was answered what the order answers, and knows no map that isn't in force
pub record IsClientKept (decision : Option End) (replies : List Reply) (cell : ClientCell) : Type 0 where
  pub answers : cell.replies ≡ replies
  pub knows : cell.knows ≡ New → is_committed decision ≡ true

-- the switch stands, and the shard wasn't told to install: what it will hold is in its lanes
abbrev pub is_moving : Phase → Bool → Bool
is_moving Committing installed = not installed
is_moving phase installed = false

-- what a shard stands for
abbrev pub stands_for : Setup → Phase → ShardCell → List LaneOf → Value → Option Document
stands_for setup phase cell lanes id = cond (is_moving phase (has cell.donor.told ToInstall))
    (held_in setup.lanes lanes id).output (now cell.shard.versions id)

-- it is the collection's
abbrev pub HoldsPlace : Setup → Phase → ShardCell → List LaneOf → Bag → ℕ → Type 0
HoldsPlace setup phase cell lanes bag s = (id : Value) → stands_for setup phase cell lanes id ≡ held bag s id

-- the invariant
pub record Keeps (setup : Setup) (state : State) (clones : Clones) (cluster : Cluster) : Type 0 where
  pub shard_count : length cluster.shards ≡ length setup.shards
  pub clock_count : length cluster.clocks.shards ≡ length setup.shards
  pub lane_rows : length cluster.lanes ≡ length setup.shards
  pub link_rows : length cluster.links ≡ length setup.shards
  pub client_count : length cluster.clients ≡ length setup.clients
  pub answered : length state.answers ≡ length setup.clients
  pub noted : IsNoted setup cluster.control
  pub decided : IsDecided setup (course_of cluster.control) (clock_of cluster.clocks cell.Coordinator) state
  pub clients : (c : ℕ) → c < length setup.clients
      → IsClientKept cluster.control.decision (replies_to state c) (client_in cluster c)
  pub donors : (s : ℕ) → s < length setup.shards
      → IsDonorKept setup s (course_of cluster.control) (is_true_at cluster.control.told s)
      (clock_of cluster.clocks cell.Coordinator) (clones s) (clock_of cluster.clocks (cell.Shard s)) (shard_in cluster s)
  pub recipients : (r : ℕ) → r < length setup.shards
      → IsRecipientKept setup r (course_of cluster.control) (is_true_at cluster.control.reported r)
      (slice_index_or cluster.control.clashes r None) (shard_in cluster r).donor
      (sources_of clones cluster r) (links_of cluster r) (lanes_of cluster r)
  pub contents : (s : ℕ) → s < length setup.shards
      → HoldsPlace setup cluster.control.phase (shard_in cluster s) (lanes_of cluster s) state.bag s
