-- A step of a cluster on one thread: nothing where its event may not be made, else its event and at once all that
-- follows it.
use Rattle.std.specs.Prelude.{◌≡◌, ℕ, zero, suc, Bool, true, false, List, [], ◌∷◌, Option, Some, None}
use Rattle.resh_oplog.specs.declared.piece.Piece.{Piece}
use Rattle.resh_lane.specs.Lanes.{number_of}
use Rattle.resh_setup.specs.declared.event.Event.{Event}
use Rattle.resh_setup.specs.declared.event.Event.TheVariants.{Apply, Again}
use Rattle.resh_setup.specs.declared.setup.Setup.{Setup}
use Rattle.resh_cells.specs.Cells.{lane_in, link_in}
use Rattle.resh_cells.specs.Cuts.{cut_for, last_cut}
use Rattle.resh_cells.specs.declared.cluster.Cluster.{Cluster}
use Rattle.resh_events.specs.Plans.{Answers}
use Rattle.resh_events.specs.Runs.{Moment, Owed, Run, after, moment, seen_of}
use Rattle.resh_events.specs.Schedules.{IsSchedule}
use Rattle.resh_events.specs.Table.{may}
use Rattle.resh_setup.specs.declared.trace.Met.{Met}
use Rattle.resh_setup.specs.declared.trace.Met.TheVariants.{Row}
use Rattle.resh_setup.specs.declared.seen.Seen.{Seen}
use Rattle.resh_setup.specs.declared.seen.Seen.TheVariants.{Idle}

-- the piece that a step hands over
abbrev pub piece_for : Cluster → Event → Option Piece
piece_for cluster (Apply r d l) =
    last_cut (cut_for (link_in cluster r.0 d.0).sent l) (number_of (lane_in cluster r.0 l).at d.0)
piece_for cluster (Again r d l position) = last_cut (cut_for (link_in cluster r.0 d.0).sent l) position
piece_for cluster other = None

-- an event that follows no other
abbrev pub first_moment : Setup → Run → Event → Met → Moment
first_moment setup run event met =
    moment setup run event met (record { piece = piece_for run.cluster event; place = None })

-- the first event that is owed
abbrev pub owed_moment : Setup → Run → Owed → Moment
owed_moment setup run owed = moment setup run owed.event Row (record { piece = None; place = Some 0 })

-- the first event that is owed, where one is, and what comes behind it
abbrev pub owed_first : Setup → Run → List Owed → (Run → List Moment) → List Moment
owed_first setup run [] more = []
owed_first setup run (owed ∷ rest) more =
    owed_moment setup run owed ∷ more (after setup run (owed_moment setup run owed))

-- so many events that are owed, each with what follows it in its turn
abbrev pub paid : Setup → ℕ → Run → List Moment
paid setup zero run = []
paid setup (suc more) run = owed_first setup run run.owed (λ later. paid setup more later)

-- an event, and all that follows it: at most a crash, and a failure behind that
abbrev pub moments_of : Setup → Run → Event → Met → List Moment
moments_of setup run event met =
    first_moment setup run event met ∷ paid setup 2 (after setup run (first_moment setup run event met))

abbrev pub Line : Type 0
Line = Event × Seen

-- each event with what is seen of it
abbrev pub lines_of : Setup → Run → List Moment → List Line
lines_of setup run [] = []
lines_of setup run (m ∷ ms) = (m.made.event, seen_of setup run m) ∷ lines_of setup (after setup run m) ms

abbrev pub may_step : Setup → Cluster → Event → Bool
may_step setup cluster event = may setup cluster event (piece_for cluster event)

-- a step from a run: the events that it makes, and what is seen
pub data IsStep (setup : Setup) (run : Run) (event : Event) (moments : List Moment) (lines : List Line) : Type 0 where
  idles : may_step setup run.cluster event ≡ false → moments ≡ [] → lines ≡ (event, Idle) ∷ []
      → IsStep setup run event moments lines
  makes : (met : Met) → may_step setup run.cluster event ≡ true
      → Answers setup run (first_moment setup run event met)
      → moments ≡ moments_of setup run event met → IsSchedule setup run moments
      → lines ≡ lines_of setup run moments → IsStep setup run event moments lines
