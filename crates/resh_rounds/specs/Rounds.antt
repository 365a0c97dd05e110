-- Rounds: what one takes of what is left.
use Rattle.std.specs.Prelude.{◌≡◌, ◌<◌, ◌⊎◌, ℕ, ◌+◌, ◌*◌, Bool, true, false, cond, List, length}
use Rattle.resh_coord.specs.Control.{Control, all_true}
use Rattle.resh_coord.specs.declared.phase.Phase.{Phase}
use Rattle.resh_coord.specs.declared.phase.Phase.TheVariants.{Cloning, Applying, BlockingWrites}
use Rattle.resh_setup.specs.Validity.{IsValid}
use Rattle.resh_setup.specs.declared.setup.Setup.{Setup}
use Rattle.resh_events.specs.Runs.{Moment, Run, after_all}
use Rattle.resh_events.specs.Sweep.{TriesAll, is_over, round}
use Rattle.resh_rounds.specs.Serving.{IsRunning}
use Rattle.resh_rounds.specs.Sums.{total}
use Rattle.resh_rounds.specs.Supplies.{supply}

-- the marks that are still to be made in a phase: who is told, and who reports
abbrev pub unmarked : List Bool → ℕ
unmarked marks = total (λ (mark : Bool). cond mark 0 1) marks

abbrev pub marks_left : Control → ℕ
marks_left c = unmarked c.told + unmarked c.reported

-- the supply, and within it the marks
abbrev pub left_in : Setup → Run → ℕ
left_in setup run = supply setup run * (2 * length setup.shards + 1) + marks_left run.cluster.control

-- the coordinator has told all and waits for reports
abbrev pub is_waiting : Phase → List Bool → Bool
is_waiting Cloning told = all_true told
is_waiting Applying told = true
is_waiting BlockingWrites told = all_true told
is_waiting other told = false

-- a round that is begun while not all is done takes of what is left, or leaves the coordinator as it is, waiting
abbrev pub RoundsFall : Type 0
RoundsFall = (setup : Setup) (run : Run) (moments : List Moment) → IsValid setup → IsRunning setup run.cluster
    → is_over setup run.cluster ≡ false → TriesAll setup run (round setup) moments
    → (left_in setup (after_all setup run moments) < left_in setup run)
    ⊎ (((after_all setup run moments).cluster.control ≡ run.cluster.control)
    × (is_waiting run.cluster.control.phase run.cluster.control.told ≡ true))
