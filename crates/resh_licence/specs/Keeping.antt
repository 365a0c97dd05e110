-- Traces that keep a plan, and what a file's steps make.
use Rattle.std.specs.Prelude.{◌≡◌, ◌<◌, ⊤, List, [], ◌∷◌, ◌++◌}
use Rattle.resh_setup.specs.declared.event.Event.{Event}
use Rattle.resh_setup.specs.declared.event.Event.TheVariants.{Crash}
use Rattle.resh_setup.specs.declared.plan.Who.TheVariants.{Link}
use Rattle.resh_setup.specs.declared.setup.Setup.{Setup}
use Rattle.resh_setup.specs.declared.trace.Made.{Made}
use Rattle.resh_events.specs.Plans.{Free, KeepsPlan}
use Rattle.resh_events.specs.Runs.{Moment, Run, after_all, opening_run}
use Rattle.resh_events.specs.Schedules.{IsSchedule, trace_of}
use Rattle.resh_events.specs.Sweep.{Makes}

-- a trace of a schedule that keeps the plan, so many crashes of each link being free, and its last state
pub record IsPlannedTrace (setup : Setup) (free : Free) (trace : List Made) (last : Run) : Type 0 where
  pub moments : List Moment
  pub made : trace ≡ trace_of moments
  pub schedule : IsSchedule setup (opening_run setup) moments
  pub keeps : KeepsPlan setup free (opening_run setup) moments
  pub ends : last ≡ after_all setup (opening_run setup) moments

-- what steps make one after another
abbrev pub MakeAll : Setup → Run → List Event → List Moment → Type 0
MakeAll setup run [] moments = moments ≡ []
MakeAll setup run (event ∷ events) moments =
    (first : List Moment) × (rest : List Moment) × (moments ≡ first ++ rest) × Makes setup run event first
    × MakeAll setup (after_all setup run first) events rest

-- a step that crashes a link has a free crash
abbrev pub HasFree : Free → Event → Type 0
HasFree free (Crash r d) = 0 < free (Link r d)
HasFree free other = ⊤

-- what follows has happened: nothing is owed
abbrev pub IsPaid : Run → Type 0
IsPaid run = run.owed ≡ []

-- events that are made of a run in which nothing is owed: they are a schedule, keep the plan, and owe nothing
pub record Keep (setup : Setup) (free : Free) (run : Run) (moments : List Moment) : Type 0 where
  pub schedule : IsSchedule setup run moments
  pub keeps : KeepsPlan setup free run moments
  pub paid : IsPaid (after_all setup run moments)
