-- The rows in which a shard is told something keep the invariant. Clocks are set before, but where entries are logged.
use Rattle.std.specs.Prelude.{◌≡◌, ◌≤◌, ◌<◌, ◌^◌, ℕ, true}
use Rattle.resh_cells.specs.Clocks.{clock_of}
use Rattle.resh_cells.specs.declared.cell.Cell.TheVariants as cell
use Rattle.resh_cells.specs.declared.cluster.Clocks.{Clocks}
use Rattle.resh_cells.specs.declared.cluster.Cluster.{Cluster}
use Rattle.resh_coord.specs.declared.phase.Phase.TheVariants as phase
use Rattle.resh_events.specs.rows.Retell as retell
use Rattle.resh_events.specs.rows.Tell as tell
use Rattle.resh_model.specs.Orders.{State}
use Rattle.resh_setup.specs.Validity.{IsValid}
use Rattle.resh_setup.specs.declared.setup.Setup.{Setup}
use Rattle.resh_stamp.specs.declared.stamp.Stamp.{Stamp}
use Rattle.resh_invariant.specs.Frames.{AreLater}
use Rattle.resh_invariant.specs.Keeping.{Keeps}
use Rattle.resh_invariant.specs.Sources.{Clones}

pub record TellRowsKeep : Type 0 where
  -- a shard is told to prepare, by a coordinator whose clock isn't behind its own
  pub prepare : (setup : Setup) (state : State) (clones : Clones) (cluster : Cluster) (s : ℕ) (stamp : Stamp)
      → Keeps setup state clones cluster → cluster.control.phase ≡ phase.PreparingToDonate
      → tell.may cluster s ≡ true
      → clock_of cluster.clocks (cell.Shard s) ≤ clock_of cluster.clocks cell.Coordinator
      → Keeps setup state clones (tell.change stamp cluster s)
  -- a shard is told to donate, whose clock isn't behind the coordinator's
  pub donate : (setup : Setup) (state : State) (clones : Clones) (cluster : Cluster) (s : ℕ) (stamp : Stamp)
      → Keeps setup state clones cluster → cluster.control.phase ≡ phase.Cloning
      → tell.may cluster s ≡ true
      → clock_of cluster.clocks cell.Coordinator ≤ clock_of cluster.clocks (cell.Shard s)
      → Keeps setup state clones (tell.change stamp cluster s)
  -- a shard is told to block its writes, by an event later than its clock and the coordinator's, to whose time its clock
  -- is set
  pub block : (setup : Setup) (state : State) (clones : Clones) (cluster : Cluster) (s : ℕ) (stamp : Stamp)
      (clocks : Clocks) → IsValid setup
      → Keeps setup state clones cluster → cluster.control.phase ≡ phase.BlockingWrites
      → tell.may cluster s ≡ true → AreLater cluster.clocks clocks
      → clock_of cluster.clocks cell.Coordinator < stamp.time → clock_of cluster.clocks (cell.Shard s) < stamp.time
      → clock_of clocks (cell.Shard s) ≡ stamp.time → stamp.node < 2 ^ 32
      → Keeps setup state clones (record (tell.change stamp cluster s) { clocks = clocks })
  -- a shard whose clock is set to the event's time, later than the fetch time, is told to install
  pub install : (setup : Setup) (state : State) (clones : Clones) (cluster : Cluster) (s : ℕ) (stamp : Stamp)
      → IsValid setup
      → Keeps setup state clones cluster → cluster.control.phase ≡ phase.Committing
      → tell.may cluster s ≡ true → clock_of cluster.clocks (cell.Shard s) ≡ stamp.time
      → cluster.control.fetch_time < stamp.time
      → Keeps setup state clones (tell.change stamp cluster s)
  -- or to release
  pub release : (setup : Setup) (state : State) (clones : Clones) (cluster : Cluster) (s : ℕ) (stamp : Stamp)
      → Keeps setup state clones cluster → cluster.control.phase ≡ phase.Aborting
      → tell.may cluster s ≡ true → clock_of cluster.clocks (cell.Shard s) ≡ stamp.time
      → Keeps setup state clones (tell.change stamp cluster s)
  -- a message that comes again
  pub retell : (setup : Setup) (state : State) (clones : Clones) (cluster : Cluster)
      → Keeps setup state clones cluster → Keeps setup state clones (retell.change cluster)
