-- What every event keeps, of which rounds end, and a step with all that follows its event.
use Rattle.std.proofs.Common.{◌≡◌, ℕ, zero, suc, ◌==◌, Bool, true, false, List, [], ◌∷◌, ◌++◌, remove, refl, sym, subst}
use Rattle.std.specs.Prelude.{⊤}
use Rattle.resh_value.specs.declared.value.ShardId.{ShardId}
use Rattle.resh_coord.specs.declared.cause.Why.TheVariants.{Crashes}
use Rattle.resh_model.specs.Orders as orders
use Rattle.resh_model.specs.Orders.{State, walked}
use Rattle.resh_setup.specs.Validity.{IsValid}
use Rattle.resh_setup.specs.declared.event.Event.{Event}
use Rattle.resh_setup.specs.declared.event.Event.TheVariants.{Clone, Fetch, Cut, Apply, Again, Record, Crash, Fail}
use Rattle.resh_setup.specs.declared.plan.Who.{Who}
use Rattle.resh_setup.specs.declared.plan.Who.TheVariants.{Coordinator, Link, Lane}
use Rattle.resh_setup.specs.declared.setup.Setup.{Setup}
use Rattle.resh_setup.specs.declared.trace.Met.{Met}
use Rattle.resh_setup.specs.declared.trace.Met.TheVariants.{Row, CrashedBefore, CrashedAfter, Failed, Lost, NoMemory, NoMemoryInMove}
use Rattle.resh_cells.specs.Cells.{link_in}
use Rattle.resh_cells.specs.declared.cluster.Cluster.{Cluster}
use Rattle.resh_events.specs.Follows.{after_failing, after_fate, after_losses, after_row, failure, follows, limit, only_if}
use Rattle.resh_events.specs.Luck.{Asks, quiet, commits, delivers}
use Rattle.resh_events.specs.Opening.{opening}
use Rattle.resh_events.specs.Runs.{Moment, Owed, Run, after, after_all, asked_by, cells_of, cluster_after, opening_run, owes}
use Rattle.resh_events.specs.Schedules.{IsSchedule, Stands}
use Rattle.resh_events.specs.Steps.{IsStep, Line, first_moment, idles, makes, moments_of, owed_first, owed_moment, paid}
use Rattle.resh_events.specs.Turns.{turns_of}
use Rattle.resh_ending.specs.Shapes.{IsShaped}
use Rattle.resh_ending.proofs.Shaping.{clocks_keep, opens, shapes_keep}
use Rattle.resh_rounds.specs.Serving.{IsRunning}
use Rattle.resh_rounds.proofs.Running.{opens_running, stays_running}
use Rattle.resh_invariant.specs.Laws.{OpensKept}
use Rattle.resh_invariant.specs.Sources.{told_clones}
use Rattle.resh_client_rows.specs.Laws.{IsKept}
use Rattle.resh_law.specs.Laws.{EveryScheduleKeeps}
use Rattle.resh_leading.specs.Laws.{OpensLeading, StaysLeading}
use Rattle.resh_leading.specs.Leading.{LeadsOn}
use Rattle.resh_sweeps.specs.Laws.{IsSweeping}

-- the same, of a cluster that may owe events
pub record IsLed (setup : Setup) (cluster : Cluster) : Type 0 where
  pub state : State
  pub kept : IsKept setup state cluster
  pub leads : LeadsOn setup cluster
  pub running : IsRunning setup cluster
  pub shaped : IsShaped setup cluster

pub led : (setup : Setup) (run : Run) → IsSweeping setup run → IsLed setup run.cluster
led setup run is = record {
  state = is.state;
  kept = is.kept;
  leads = is.leads;
  running = is.running;
  shaped = is.shaped;
}

pub sweeping : (setup : Setup) (run : Run) → IsLed setup run.cluster → run.owed ≡ [] → IsSweeping setup run
sweeping setup run is none = record {
  state = is.state;
  kept = is.kept;
  leads = is.leads;
  running = is.running;
  shaped = is.shaped;
  paid = none;
}

-- the opening state of a valid setup
pub opens_sweeping : OpensKept → OpensLeading → (setup : Setup) → IsValid setup → IsSweeping setup (opening_run setup)
opens_sweeping kept leading setup valid = record {
  state = orders.opening setup;
  kept = (told_clones (opening setup), kept setup valid);
  leads = leading setup valid;
  running = opens_running setup;
  shaped = opens setup;
  paid = refl;
}

pub stays_shaped : (setup : Setup) (run : Run) (m : Moment) → IsShaped setup run.cluster → IsShaped setup (after setup run m).cluster
unfolding after
stays_shaped setup run m is =
    clocks_keep setup m.made.stamp.time (cells_of setup run m.made.event m.made.met) _
    (shapes_keep setup m.made.stamp run.cluster m.made.event m.given.piece m.made.met is)

-- what follows an event, and what follows that, is at most so many events
abbrev Ends : ℕ → Event → Type 0
Ends n (Fail named cause) = ⊤
Ends (suc n) (Crash r d) = ⊤
Ends n other = ⊥

abbrev AreShort : ℕ → List Owed → Type 0
AreShort n [] = ⊤
AreShort zero (o ∷ rest) = ⊥
AreShort (suc n) (o ∷ rest) = (rest ≡ []) × Ends n o.event

if_fails : (n time : ℕ) (t : Bool) (who : Who) → AreShort (suc n) (owes time (only_if t (failure who Crashes)))
if_fails n time true who = (refl, tt)
if_fails n time false who = tt

if_crashes : (n time : ℕ) (t : Bool) (r d : ShardId) → AreShort (suc (suc n)) (owes time (only_if t (Crash r d)))
if_crashes n time true r d = (refl, tt)
if_crashes n time false r d = tt

fate_short : (time : ℕ) (cluster : Cluster) (asked : Asks) → AreShort 2 (owes time (after_fate cluster asked))
fate_short time cluster quiet = tt
fate_short time cluster (delivers who) = tt
fate_short time cluster (commits Coordinator) = if_fails 1 time (cluster.control.crashes == limit) Coordinator
fate_short time cluster (commits (Link r d)) = if_crashes 0 time (link_in cluster r.0 d.0).link.is_open r d
fate_short time cluster (commits (Lane r d l)) = if_crashes 0 time (link_in cluster r.0 d.0).link.is_open r d

failing_short : (time : ℕ) (asked : Asks) → AreShort 2 (owes time (after_failing asked))
failing_short time quiet = tt
failing_short time (commits who) = (refl, tt)
failing_short time (delivers who) = tt

losses_short : (time : ℕ) (asked : Asks) → AreShort 2 (owes time (after_losses asked))
losses_short time quiet = tt
losses_short time (commits who) = tt
losses_short time (delivers who) = (refl, tt)

row_short : (n time : ℕ) (cluster : Cluster) (event : Event) → AreShort (suc n) (owes time (after_row cluster event))
row_short n time cluster (Crash r d) = if_fails n time ((link_in cluster r.0 d.0).link.crashes == limit) (Link r d)
row_short n time cluster other = tt

want_short : (time : ℕ) (cluster : Cluster) (event : Event) (asked : Asks)
    → AreShort 2 (owes time (follows cluster event asked NoMemory))
want_short time cluster (Clone r d) asked = (refl, tt)
want_short time cluster (Fetch r d) asked = (refl, tt)
want_short time cluster (Cut r d) asked = (refl, tt)
want_short time cluster (Apply r d l) asked = (refl, tt)
want_short time cluster (Again r d l position) asked = (refl, tt)
want_short time cluster (Record r d) asked = (refl, tt)
want_short time cluster other asked = tt

follows_short : (time : ℕ) (cluster : Cluster) (event : Event) (asked : Asks) (met : Met)
    → AreShort 2 (owes time (follows cluster event asked met))
follows_short time cluster event asked Row = row_short 1 time cluster event
follows_short time cluster event asked CrashedBefore = fate_short time cluster asked
follows_short time cluster event asked CrashedAfter = fate_short time cluster asked
follows_short time cluster event asked Failed = failing_short time asked
follows_short time cluster event asked Lost = losses_short time asked
follows_short time cluster event asked NoMemory = want_short time cluster event asked
follows_short time cluster event asked NoMemoryInMove = tt

-- behind an event that is owed
back_short : (n time : ℕ) (cluster : Cluster) (event : Event) → Ends n event → AreShort n (owes time (after_row cluster event))
back_short n time cluster (Fail named cause) ends = tt
back_short (suc n) time cluster (Crash r d) ends = row_short n time cluster (Crash r d)
back_short zero time cluster (Crash r d) ends = absurd ends
back_short zero time cluster other ends = absurd ends
back_short (suc n) time cluster other ends = absurd ends

left_short : (setup : Setup) (n : ℕ) (run : Run) (o : Owed) (rest : List Owed) → run.owed ≡ o ∷ rest → AreShort (suc n) (o ∷ rest)
    → AreShort n (after setup run (owed_moment setup run o)).owed
unfolding after
left_short setup n run o rest is short =
    let next : Cluster = cluster_after setup run (owed_moment setup run o) in
    let time : ℕ = (owed_moment setup run o).made.stamp.time in
    subst (λ (owed : List Owed). AreShort n (remove owed 0 ++ owes time (after_row next o.event))) (sym is)
    (subst (λ (owed : List Owed). AreShort n (owed ++ owes time (after_row next o.event))) (sym short.0)
    (back_short n time next o.event short.1))

none_left : (owed : List Owed) → AreShort 0 owed → owed ≡ []
none_left [] short = refl
none_left (o ∷ rest) short = absurd short

first_paid : (setup : Setup) (n : ℕ) (run : Run) (owed : List Owed) (more : Run → List Moment) → run.owed ≡ owed
    → AreShort (suc n) owed
    → ((later : Run) → AreShort n later.owed → (after_all setup later (more later)).owed ≡ [])
    → (after_all setup run (owed_first setup run owed more)).owed ≡ []
unfolding after_all
first_paid setup n run [] more is short pays = is
first_paid setup n run (o ∷ rest) more is short pays =
    pays (after setup run (owed_moment setup run o)) (left_short setup n run o rest is short)

all_paid : (setup : Setup) (n : ℕ) (run : Run) → AreShort n run.owed → (after_all setup run (paid setup n run)).owed ≡ []
unfolding after_all
all_paid setup zero run short = none_left run.owed short
all_paid setup (suc n) run short =
    first_paid setup n run run.owed (λ later. paid setup n later) refl short (λ later s. all_paid setup n later s)

first_short : (setup : Setup) (run : Run) (event : Event) (met : Met) → run.owed ≡ []
    → AreShort 2 (after setup run (first_moment setup run event met)).owed
unfolding after
first_short setup run event met none =
    let m : Moment = first_moment setup run event met in
    subst (λ (owed : List Owed). AreShort 2 (owed ++ owes m.made.stamp.time
    (follows (cluster_after setup run m) event (asked_by run m) met))) (sym none)
    (follows_short m.made.stamp.time (cluster_after setup run m) event (asked_by run m) met)

step_paid : (setup : Setup) (run : Run) (event : Event) (met : Met) → run.owed ≡ []
    → (after_all setup run (moments_of setup run event met)).owed ≡ []
unfolding after_all
step_paid setup run event met none =
    all_paid setup 2 (after setup run (first_moment setup run event met)) (first_short setup run event met none)

module _ (laws : EveryScheduleKeeps) (leading : StaysLeading) (setup : Setup) (valid : IsValid setup) where
  -- an event that may be made
  pub moment_led : (run : Run) (m : Moment) → IsLed setup run.cluster → Stands setup run m
      → IsLed setup (after setup run m).cluster
  moment_led run m is stands = record {
    state = walked setup is.state (turns_of setup run m);
    kept = (laws.moment setup is.state run m valid is.kept stands).1;
    leads = leading setup is.state is.kept.0 run m valid is.kept.1 is.leads stands;
    running = stays_running setup run m is.running;
    shaped = stays_shaped setup run m is.shaped;
  }

  -- and several
  pub schedule_led : (run : Run) (moments : List Moment) → IsLed setup run.cluster → IsSchedule setup run moments
      → IsLed setup (after_all setup run moments).cluster
  unfolding after_all
  schedule_led run [] is schedule = is
  schedule_led run (m ∷ moments) is schedule =
      schedule_led (after setup run m) moments (moment_led run m is schedule.0) schedule.1

  -- a step of any event
  pub sweeping_stays : (run : Run) (event : Event) (moments : List Moment) (lines : List Line) → IsSweeping setup run
      → IsStep setup run event moments lines → IsSweeping setup (after_all setup run moments)
  unfolding after_all
  sweeping_stays run event moments lines is (idles never nothing shows) =
      subst (λ (ms : List Moment). IsSweeping setup (after_all setup run ms)) (sym nothing) is
  sweeping_stays run event moments lines is (makes met goes given equal schedule shows) =
      sweeping setup (after_all setup run moments) (schedule_led run moments (led setup run is) schedule)
      (subst (λ (ms : List Moment). (after_all setup run ms).owed ≡ []) (sym equal) (step_paid setup run event met is.paid))
