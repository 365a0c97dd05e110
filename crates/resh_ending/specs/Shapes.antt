-- The shape of a cluster, which no event changes: how many positions each lane has, and how many links each recipient.
use Rattle.std.specs.Prelude.{◌≡◌, ℕ, List, Option, length, map, replicate}
use Rattle.resh_oplog.specs.declared.piece.Piece.{Piece}
use Rattle.resh_stamp.specs.declared.stamp.Stamp.{Stamp}
use Rattle.resh_lane.specs.Lanes.{LaneOf}
use Rattle.resh_setup.specs.declared.event.Event.{Event}
use Rattle.resh_setup.specs.declared.setup.Setup.{Setup}
use Rattle.resh_setup.specs.declared.trace.Met.{Met}
use Rattle.resh_cells.specs.Clocks.{with_clocks}
use Rattle.resh_cells.specs.declared.cell.Cell.{Cell}
use Rattle.resh_cells.specs.declared.cluster.Cluster.{Cluster}
use Rattle.resh_cells.specs.declared.cluster.LinkCell.{LinkCell}
use Rattle.resh_events.specs.Luck as luck
use Rattle.resh_events.specs.Opening.{opening}

abbrev pub positions : List LaneOf → List ℕ
positions lanes = map (λ (lane : LaneOf). length lane.at) lanes

abbrev pub lane_shape : Cluster → List (List ℕ)
lane_shape cluster = map positions cluster.lanes

abbrev pub link_shape : Cluster → List ℕ
link_shape cluster = map (λ (links : List LinkCell). length links) cluster.links

-- each recipient has a link for each shard, and its lanes have a position for each
pub record IsShaped (setup : Setup) (cluster : Cluster) : Type 0 where
  pub lanes : lane_shape cluster ≡ replicate (length setup.shards) (replicate setup.lanes (length setup.shards))
  pub links : link_shape cluster ≡ replicate (length setup.shards) (length setup.shards)

-- the opening state of a setup is so
abbrev pub Opens : Type 0
Opens = (setup : Setup) → IsShaped setup (opening setup)

-- and stays so after an event, whatever it met
abbrev pub Keeps : Type 0
Keeps = (setup : Setup) (stamp : Stamp) (cluster : Cluster) (event : Event) (piece : Option Piece) (met : Met)
    → IsShaped setup cluster → IsShaped setup (luck.change setup stamp cluster event piece met)

-- and where clocks are set
abbrev pub ClocksKeep : Type 0
ClocksKeep = (setup : Setup) (time : ℕ) (cells : List Cell) (cluster : Cluster)
    → IsShaped setup cluster → IsShaped setup (with_clocks time cells cluster)
