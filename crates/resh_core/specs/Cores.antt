-- A core, and what its calls make of it.
use Rattle.std.specs.Prelude.{◌≡◌, List, [], ◌++◌, map, refl}
use Rattle.std.specs.Coded.{Coded, code_by, coded×, coded_list}
use Rattle.resh_luck.specs.Fates.{Told}
use Rattle.resh_setup.specs.Validity.{IsValid}
use Rattle.resh_setup.specs.contracts.setup.Setup as setup_type
use Rattle.resh_setup.specs.contracts.trace.Made as made_type
use Rattle.resh_setup.specs.contracts.turn.Turn as turn_type
use Rattle.resh_setup.specs.declared.event.Event.{Event}
use Rattle.resh_setup.specs.declared.setup.Setup.{Setup}
use Rattle.resh_setup.specs.declared.trace.Made.{Made}
use Rattle.resh_setup.specs.declared.turn.Turn.{Turn}
use Rattle.resh_cells.specs.contracts.cluster.Cluster as cluster_type
use Rattle.resh_cells.specs.declared.cluster.Cluster.{Cluster}
use Rattle.resh_cells.specs.Belonging.{IsClusterOf}
use Rattle.resh_events.specs.Lucks.{Lucks}
use Rattle.resh_events.specs.Opening.{opening}
use Rattle.resh_events.specs.Runs.{Moment, Run, after_all}
use Rattle.resh_events.specs.Schedules.{trace_of}
use Rattle.resh_events.specs.Steps.{IsStep, Line}
use Rattle.resh_events.specs.Sweep.{Sweeps}
use Rattle.resh_events.specs.Turns.{order_of}
use Rattle.resh_model.specs.Orders as turns
use Rattle.resh_ending.specs.Shapes.{IsShaped}
use Rattle.resh_rounds.specs.Serving.{IsRunning}
use Rattle.resh_client_rows.specs.Laws.{KeepsTurns}
use Rattle.resh_leading.specs.Leading.{LeadsOn}
use Rattle.resh_core.specs.declared.lucks.Lucks.{Lucks as LucksOf}

-- its setup and its cluster, the events made so far, and their turns
pub record CoreOf : Type 0 where
  pub setup : Setup
  pub cluster : Cluster
  pub trace : List Made
  pub order : List Turn

-- a core is stored as the tuple of its parts
abbrev pub core_code : Coded CoreOf
core_code =
    code_by (Setup × (Cluster × (List Made × List Turn)))
    (coded× setup_type.the_row.coded (coded× cluster_type.the_row.coded
    (coded× (coded_list made_type.the_row.coded) (coded_list turn_type.the_row.coded))))
    (λ c. (c.setup, (c.cluster, (c.trace, c.order))))
    (λ p. record { setup = p.0; cluster = p.1.0; trace = p.1.1.0; order = p.1.1.1 }) (λ _. refl)

-- a valid setup, and a cluster of it to which these turns led: they may come one after another, the invariant is kept
-- with them, and what a sweep needs stands
pub record IsSound (setup : Setup) (order : List Turn) (cluster : Cluster) : Type 0 where
  pub valid : IsValid setup
  pub of : IsClusterOf setup cluster
  pub shaped : IsShaped setup cluster
  pub running : IsRunning setup cluster
  pub leads : LeadsOn setup cluster
  pub turns : KeepsTurns setup (turns.opening setup) order cluster

-- what is told of all lucks
abbrev pub tolds : {L : Type 0} → (L → Told) → LucksOf L → Lucks
tolds told lucks = record {
  coordinator = told lucks.coordinator;
  links = map told lucks.links;
  lanes = map told lucks.lanes;
}

-- a core before its first event
abbrev pub opening_core : Setup → CoreOf
opening_core setup = record { setup = setup; cluster = opening setup; trace = []; order = [] }

-- a core and what is told of lucks, as a run in which nothing is owed
abbrev pub run_of : CoreOf → Lucks → Run
run_of core lucks = record { cluster = core.cluster; owed = []; lucks = lucks }

-- a call has made these events: they are added to the trace, their turns to the order, and they lead from one run to
-- the other
pub record HasMade (old : CoreOf) (before : Lucks) (moments : List Moment) (new : CoreOf) (later : Lucks) : Type 0 where
  pub setup : new.setup ≡ old.setup
  pub trace : new.trace ≡ old.trace ++ trace_of moments
  pub order : new.order ≡ old.order ++ order_of old.setup (run_of old before) moments
  pub run : run_of new later ≡ after_all old.setup (run_of old before) moments

-- a step of one event has made what a step makes, and shows these lines
pub record HasStepped (old : CoreOf) (before : Lucks) (event : Event) (lines : List Line) (new : CoreOf) (later : Lucks)
    : Type 0 where
  pub moments : List Moment
  pub step : IsStep old.setup (run_of old before) event moments lines
  pub made : HasMade old before moments new later

-- a sweep has made what a sweep makes
pub record HasSwept (old : CoreOf) (before : Lucks) (new : CoreOf) (later : Lucks) : Type 0 where
  pub moments : List Moment
  pub sweep : Sweeps old.setup (run_of old before) moments
  pub made : HasMade old before moments new later
