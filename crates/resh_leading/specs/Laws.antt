-- What leads a sweep on stands at the opening state, is kept by every event, and bounds the feeds.
use Rattle.std.specs.Prelude.{◌≢◌, ◌≤◌, ◌<◌, ℕ, ◌+◌, ◌*◌, length}
use Rattle.resh_cells.specs.declared.cluster.Cluster.{Cluster}
use Rattle.resh_events.specs.Opening.{opening}
use Rattle.resh_events.specs.Runs.{Moment, Run, after}
use Rattle.resh_events.specs.Schedules.{Stands}
use Rattle.resh_model.specs.Orders.{State}
use Rattle.resh_coord.specs.declared.phase.Phase.TheVariants.{Committing, Aborting, Done}
use Rattle.resh_setup.specs.Validity.{IsValid}
use Rattle.resh_setup.specs.declared.setup.Setup.{Setup}
use Rattle.resh_invariant.specs.Keeping.{Keeps}
use Rattle.resh_invariant.specs.Sources.{Clones, feed_by, sources_of}
use Rattle.resh_leading.specs.Leading.{LeadsOn, commands_in}

abbrev pub OpensLeading : Type 0
OpensLeading = (setup : Setup) → IsValid setup → LeadsOn setup (opening setup)

-- an event that may be made, of a cluster that keeps the invariant
abbrev pub StaysLeading : Type 0
StaysLeading = (setup : Setup) (state : State) (clones : Clones) (run : Run) (m : Moment) → IsValid setup
    → Keeps setup state clones run.cluster → LeadsOn setup run.cluster → Stands setup run m
    → LeadsOn setup (after setup run m).cluster

-- the most items that a feed comes to
abbrev pub most_items : Setup → ℕ
most_items setup = length setup.documents + 3 * commands_in setup + length setup.shards

-- until the end is decided
abbrev pub FeedsAreFew : Type 0
FeedsAreFew = (setup : Setup) (state : State) (clones : Clones) (cluster : Cluster) (r d : ℕ)
    → Keeps setup state clones cluster → LeadsOn setup cluster → r < length setup.shards → d < length setup.shards
    → cluster.control.phase ≢ Committing → cluster.control.phase ≢ Aborting → cluster.control.phase ≢ Done
    → length (feed_by (sources_of clones cluster r d)) ≤ most_items setup
