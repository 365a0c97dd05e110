-- The rows of lanes keep the invariant. Clocks come beside them.
use Rattle.std.specs.Prelude.{◌≡◌, ℕ, true, Option}
use Rattle.resh_cells.specs.declared.cluster.Cluster.{Cluster}
use Rattle.resh_events.specs.Schedules.{WasCut}
use Rattle.resh_events.specs.rows.Again as again
use Rattle.resh_events.specs.rows.Apply as apply
use Rattle.resh_events.specs.rows.Crash as crash
use Rattle.resh_model.specs.Orders.{State}
use Rattle.resh_oplog.specs.declared.piece.Piece.{Piece}
use Rattle.resh_setup.specs.declared.setup.Setup.{Setup}
use Rattle.resh_invariant.specs.Keeping.{Keeps}
use Rattle.resh_invariant.specs.Sources.{Clones}

pub record LaneRowsKeep : Type 0 where
  -- a piece that was ever cut, at the lane's position or at any other
  pub apply : (setup : Setup) (state : State) (clones : Clones) (cluster : Cluster) (r d l : ℕ) (piece : Option Piece)
      → Keeps setup state clones cluster → WasCut cluster r d l piece → apply.may cluster r d l piece ≡ true
      → Keeps setup state clones (apply.change cluster r d l piece)
  pub again : (setup : Setup) (state : State) (clones : Clones) (cluster : Cluster) (r d l position : ℕ)
      (piece : Option Piece)
      → Keeps setup state clones cluster → WasCut cluster r d l piece → again.may cluster r d l position piece ≡ true
      → Keeps setup state clones (again.change cluster r d l piece)
  -- a link that goes back at any time, and its recipient's lanes with it
  pub crash : (setup : Setup) (state : State) (clones : Clones) (cluster : Cluster) (r d : ℕ)
      → Keeps setup state clones cluster → crash.may cluster r d ≡ true
      → Keeps setup state clones (crash.change cluster r d)
