-- The coordinator leaves a phase in which all were told and have reported whom it asks for. The fetch time is the time
-- of the event that leads to cloning.
use Rattle.std.specs.Prelude.{Bool, List, [], ◌∷◌}
use Rattle.resh_stamp.specs.declared.stamp.Stamp.{Stamp}
use Rattle.resh_coord.specs.Control.{advanced, may_advance}
use Rattle.resh_coord.specs.declared.phase.Phase.{Phase}
use Rattle.resh_coord.specs.declared.phase.Phase.TheVariants as phase
use Rattle.resh_cells.specs.Cells.{on_control}
use Rattle.resh_cells.specs.declared.cluster.Cluster.{Cluster}
use Rattle.resh_cells.specs.declared.cell.Cell.{Cell}
use Rattle.resh_cells.specs.declared.cell.Cell.TheVariants as named
use Rattle.resh_setup.specs.declared.seen.Seen.{Seen}
use Rattle.resh_setup.specs.declared.seen.Seen.TheVariants.{Idle, PreparingToDonate, Cloning, Applying, BlockingWrites, Committing, Aborting, Done}

abbrev pub may : Cluster → Bool
may cluster = may_advance cluster.control

abbrev pub change : Stamp → Cluster → Cluster
change stamp cluster = on_control (advanced stamp.time) cluster

abbrev pub phase_seen : Phase → Seen
phase_seen phase.Initializing = Idle
phase_seen phase.PreparingToDonate = PreparingToDonate
phase_seen phase.Cloning = Cloning
phase_seen phase.Applying = Applying
phase_seen phase.BlockingWrites = BlockingWrites
phase_seen phase.Committing = Committing
phase_seen phase.Aborting = Aborting
phase_seen phase.Done = Done

-- the phase to which it leads
abbrev pub seen : Stamp → Cluster → Seen
seen stamp cluster = phase_seen (advanced stamp.time cluster.control).phase

abbrev pub holds : List Cell
holds = named.Coordinator ∷ []
