-- Rounds end: each leaves less to do.
use Rattle.std.specs.Prelude.{◌≡◌, ◌<◌, ℕ, ◌+◌, ◌*◌, Bool, true, false, cond, List, [], length}
use Rattle.resh_cells.specs.Cells.{link_in}
use Rattle.resh_cells.specs.declared.cluster.Cluster.{Cluster}
use Rattle.resh_coord.specs.declared.phase.Phase.{Phase}
use Rattle.resh_coord.specs.declared.phase.Phase.TheVariants.{Cloning, Applying, BlockingWrites}
use Rattle.resh_ending.specs.Shapes.{IsShaped}
use Rattle.resh_events.specs.Runs.{Moment, Run, after_all}
use Rattle.resh_events.specs.Sweep.{TriesAll, is_over, round}
use Rattle.resh_model.specs.Orders.{State}
use Rattle.resh_rounds.specs.Rounds.{left_in}
use Rattle.resh_rounds.specs.Serving.{IsRunning}
use Rattle.resh_rounds.specs.Sums.{upto}
use Rattle.resh_rounds.specs.Working.{work}
use Rattle.resh_setup.specs.Validity.{IsValid}
use Rattle.resh_setup.specs.declared.setup.Setup.{Setup}
use Rattle.resh_client_rows.specs.Laws.{IsKept}
use Rattle.resh_leading.specs.Laws.{most_items}
use Rattle.resh_leading.specs.Leading.{LeadsOn}

-- the phases in which links have work
abbrev pub has_work : Phase → Bool
has_work Cloning = true
has_work Applying = true
has_work BlockingWrites = true
has_work other = false

-- what is left of all links' work, and the most that it comes to
abbrev pub work_left : Setup → Cluster → ℕ
work_left setup cluster = upto (length setup.shards)
    (λ r. upto (length setup.shards) (λ d. work (most_items setup) (link_in cluster r d).link))

abbrev pub most_work : Setup → ℕ
most_work setup = length setup.shards * (length setup.shards * (4 * most_items setup + 3))

-- what is left of a run's rounds: its supply and marks, and within them the links' work
unfoldable pub rounds_left : Setup → Run → ℕ
rounds_left setup run = left_in setup run * (most_work setup + 1)
    + cond (has_work run.cluster.control.phase) (work_left setup run.cluster) 0

-- what a run keeps of which rounds end
pub record IsSweeping (setup : Setup) (run : Run) : Type 0 where
  pub state : State
  pub kept : IsKept setup state run.cluster
  pub leads : LeadsOn setup run.cluster
  pub running : IsRunning setup run.cluster
  pub shaped : IsShaped setup run.cluster
  pub paid : run.owed ≡ []

-- a round that is begun while not all is done leaves less
abbrev pub RoundsEnd : Type 0
RoundsEnd = (setup : Setup) (run : Run) (moments : List Moment) → IsValid setup → IsSweeping setup run
    → is_over setup run.cluster ≡ false → TriesAll setup run (round setup) moments
    → rounds_left setup (after_all setup run moments) < rounds_left setup run
