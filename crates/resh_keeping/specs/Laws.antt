-- Every event keeps whose setup a cluster runs.
use Rattle.std.specs.Prelude.{ℕ, List, Option}
use Rattle.resh_oplog.specs.declared.piece.Piece.{Piece}
use Rattle.resh_stamp.specs.declared.stamp.Stamp.{Stamp}
use Rattle.resh_setup.specs.declared.event.Event.{Event}
use Rattle.resh_setup.specs.declared.setup.Setup.{Setup}
use Rattle.resh_setup.specs.declared.trace.Met.{Met}
use Rattle.resh_cells.specs.Belonging.{IsClusterOf}
use Rattle.resh_cells.specs.Clocks.{with_clocks}
use Rattle.resh_cells.specs.declared.cell.Cell.{Cell}
use Rattle.resh_cells.specs.declared.cluster.Cluster.{Cluster}
use Rattle.resh_events.specs.Luck as luck
use Rattle.resh_events.specs.Opening.{opening}

-- the opening state of a setup is of it
abbrev pub Opens : Type 0
Opens = (setup : Setup) → IsClusterOf setup (opening setup)

-- an event leaves a cluster of the setup, whatever it met
abbrev pub Keeps : Type 0
Keeps = (setup : Setup) (stamp : Stamp) (cluster : Cluster) (event : Event) (piece : Option Piece) (met : Met)
    → IsClusterOf setup cluster → IsClusterOf setup (luck.change setup stamp cluster event piece met)

-- and so do the clocks that are set
abbrev pub ClocksKeep : Type 0
ClocksKeep = (setup : Setup) (time : ℕ) (cells : List Cell) (cluster : Cluster)
    → IsClusterOf setup cluster → IsClusterOf setup (with_clocks time cells cluster)
