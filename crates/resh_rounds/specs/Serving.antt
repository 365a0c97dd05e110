-- What every event keeps of a cluster: its lengths, under which map shards serve, and who knows the new map.
use Rattle.std.specs.Prelude.{◌≡◌, ◌<◌, ⊤, ℕ, Bool, true, false, length, Option, Some, None}
use Rattle.resh_coord.specs.Control.{Agrees, is_true_at}
use Rattle.resh_coord.specs.declared.cause.Cause.{Cause}
use Rattle.resh_coord.specs.declared.cause.End.{End}
use Rattle.resh_coord.specs.declared.cause.End.TheVariants.{Committed, Aborted}
use Rattle.resh_coord.specs.declared.phase.Phase.{Phase}
use Rattle.resh_coord.specs.declared.phase.Phase.TheVariants.{Initializing, PreparingToDonate, Cloning, Applying, BlockingWrites, Committing, Aborting, Done}
use Rattle.resh_shard.specs.declared.act.Which.{Which}
use Rattle.resh_shard.specs.declared.act.Which.TheVariants.{Old, New}
use Rattle.resh_setup.specs.declared.setup.Setup.{Setup}
use Rattle.resh_cells.specs.Belonging.{IsClusterOf}
use Rattle.resh_cells.specs.Cells.{client_in, shard_in}
use Rattle.resh_cells.specs.declared.cluster.Cluster.{Cluster}
use Rattle.resh_events.specs.Opening.{opening}
use Rattle.resh_events.specs.Runs.{Moment, Run, after}

-- the coordinator has two marks for each shard, and there is a cell for each client
pub record IsManned (setup : Setup) (cluster : Cluster) : Type 0 where
  pub told : length cluster.control.told ≡ length setup.shards
  pub reported : length cluster.control.reported ≡ length setup.shards
  pub clients : length cluster.clients ≡ length setup.clients

-- what a phase says of a shard that was told in it, or wasn't: its map in force, and whether its writes are blocked
abbrev pub ServesIn : Phase → Bool → Option End → Which → Bool → Type 0
ServesIn Committing true end which blocked = (which ≡ New) × (blocked ≡ false)
ServesIn Committing false end which blocked = ⊤
ServesIn Aborting told end which blocked = (which ≡ Old) × (told ≡ true → blocked ≡ false)
ServesIn Done told None which blocked = ⊤
ServesIn Done told (Some Committed) which blocked = (which ≡ New) × (blocked ≡ false)
ServesIn Done told (Some (Aborted cause)) which blocked = (which ≡ Old) × (blocked ≡ false)
ServesIn Initializing told end which blocked = which ≡ Old
ServesIn PreparingToDonate told end which blocked = which ≡ Old
ServesIn Cloning told end which blocked = which ≡ Old
ServesIn Applying told end which blocked = which ≡ Old
ServesIn BlockingWrites told end which blocked = which ≡ Old

-- a cluster whose shards serve as the phase says, and of whose clients none knows the new map before it is in force
pub record IsServing (cluster : Cluster) : Type 0 where
  pub agrees : Agrees cluster.control.phase cluster.control.decision
  pub shards : (s : ℕ) → s < length cluster.shards
      → ServesIn cluster.control.phase (is_true_at cluster.control.told s) cluster.control.decision (shard_in cluster s).shard.which
      (shard_in cluster s).shard.blocked
  pub clients : (c : ℕ) → (client_in cluster c).knows ≡ New → cluster.control.decision ≡ Some Committed

pub record IsRunning (setup : Setup) (cluster : Cluster) : Type 0 where
  pub manned : IsManned setup cluster
  pub of : IsClusterOf setup cluster
  pub serving : IsServing cluster

-- the opening state of a setup is so, and stays so after an event, whatever it met
abbrev pub OpensRunning : Type 0
OpensRunning = (setup : Setup) → IsRunning setup (opening setup)

abbrev pub StaysRunning : Type 0
StaysRunning = (setup : Setup) (run : Run) (m : Moment) → IsRunning setup run.cluster → IsRunning setup (after setup run m).cluster
