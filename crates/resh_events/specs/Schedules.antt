-- Schedules: events one after another from the opening state, each where it may be made.
use Rattle.std.specs.Prelude.{◌≡◌, ◌<◌, ⊤, ℕ, Bool, true, false, List, [], ◌∷◌, map, Option, Some, None}
use Rattle.std.specs.List.{Contains}
use Rattle.resh_oplog.specs.declared.piece.Piece.{Piece}
use Rattle.resh_stamp.specs.Times.{end_of_time}
use Rattle.resh_setup.specs.declared.event.Event.{Event}
use Rattle.resh_setup.specs.declared.event.Event.TheVariants as event
use Rattle.resh_setup.specs.declared.setup.Setup.{Setup}
use Rattle.resh_events.specs.Bounds.{is_bounded}
use Rattle.resh_cells.specs.Cells.{link_in}
use Rattle.resh_cells.specs.Cuts.{cut_for}
use Rattle.resh_cells.specs.declared.cluster.Cluster.{Cluster}
use Rattle.resh_events.specs.Luck.{acts, may_meet}
use Rattle.resh_events.specs.Runs.{Moment, Owed, Run, after, after_all, opening_run, owed_at, stamp_of}
use Rattle.resh_events.specs.Table.{may}
use Rattle.resh_setup.specs.declared.trace.Made.{Made}

-- a piece that the link cut for the lane
abbrev pub WasCut : Cluster → ℕ → ℕ → ℕ → Option Piece → Type 0
WasCut cluster r d l None = ⊥
WasCut cluster r d l (Some piece) =
    Contains (cut_for (link_in cluster r d).sent l) piece

-- an apply and an again deliver a piece that was ever cut, and no other event delivers one
abbrev pub Delivers : Cluster → Event → Option Piece → Type 0
Delivers cluster (event.Apply r d l) piece = WasCut cluster r.0 d.0 l piece
Delivers cluster (event.Again r d l position) piece = WasCut cluster r.0 d.0 l piece
Delivers cluster other piece = piece ≡ None

abbrev pub is_failure : Event → Bool
is_failure (event.Fail link cause) = true
is_failure other = false

-- it is the event that is owed at its place; without a place it is no failure, for a failure always follows an event of
-- its own, and a link may go back at any time
abbrev pub Follows : Event → Option ℕ → Option Owed → Type 0
Follows e None owed = is_failure e ≡ false
Follows e (Some place) None = ⊥
Follows e (Some place) (Some owed) = e ≡ owed.event

-- an event that may be made, with what it met, its stamp, and numbers that don't pass their end
pub record Stands (setup : Setup) (run : Run) (m : Moment) : Type 0 where
  pub may : may setup run.cluster m.made.event m.given.piece ≡ true
  pub meets : may_meet setup run.cluster m.made.event m.given.piece m.made.met ≡ true
  pub delivers : Delivers run.cluster m.made.event m.given.piece
  pub follows : Follows m.made.event m.given.place (owed_at run.owed m.given.place)
  pub stamp : m.made.stamp ≡ stamp_of setup run m.made.event m.made.met m.given
  pub in_time : m.made.stamp.time < end_of_time
  pub bounded : acts m.made.met ≡ true → is_bounded run.cluster m.made.event ≡ true

abbrev pub IsSchedule : Setup → Run → List Moment → Type 0
IsSchedule setup run [] = ⊤
IsSchedule setup run (m ∷ ms) = Stands setup run m × IsSchedule setup (after setup run m) ms

abbrev pub trace_of : List Moment → List Made
trace_of moments = map (λ (m : Moment). m.made) moments

-- a trace is a schedule from the opening state, and this is its last state
pub record IsTrace (setup : Setup) (trace : List Made) (last : Run) : Type 0 where
  pub moments : List Moment
  pub made : trace ≡ trace_of moments
  pub schedule : IsSchedule setup (opening_run setup) moments
  pub ends : last ≡ after_all setup (opening_run setup) moments
