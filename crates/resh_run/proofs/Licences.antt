-- A core that has run has made a schedule that keeps the file's plan, so its end has a licence; its turns are the
-- schedule's.
use Rattle.std.proofs.Common.{◌≡◌, List, [], ◌∷◌, ◌++◌, Some, refl, sym, ap, subst, ◌∙◌, append_assoc, arith}
use Rattle.std.proofs.lemmas.List.{append-nil}
use Rattle.resh_coord.specs.declared.cause.End.{End}
use Rattle.resh_setup.specs.declared.event.Event.{Event}
use Rattle.resh_setup.specs.declared.event.Event.TheVariants.{Crash}
use Rattle.resh_setup.specs.declared.setup.Setup.{Setup}
use Rattle.resh_setup.specs.declared.trace.Made.{Made}
use Rattle.resh_setup.specs.declared.turn.Turn.{Turn}
use Rattle.resh_model.specs.Licence.{HasLicence, crash_steps}
use Rattle.resh_events.specs.Lucks.{Lucks, planned}
use Rattle.resh_events.specs.Runs.{Moment, Run, after, after_all, opening_run}
use Rattle.resh_events.specs.Schedules.{IsSchedule, trace_of}
use Rattle.resh_events.specs.Steps.{IsStep, Line}
use Rattle.resh_events.specs.Sweep.{Sweeps}
use Rattle.resh_events.specs.Turns.{order_of}
use Rattle.resh_licence.specs.Keeping.{HasFree, IsPaid, IsPlannedTrace, MakeAll}
use Rattle.resh_licence.proofs.Licensed.{ends_are_licensed}
use Rattle.resh_licence.proofs.Stepping.{after_both, files_keep_plans, steps_keep_plans, sweeps_keep_plans}
use Rattle.resh_core.specs.Cores.{CoreOf, HasSwept, opening_core, run_of}
use Rattle.resh_core.proofs.TrialLaws.{order_both}
use Rattle.resh_run.specs.Cluster.{HasRun, HaveStepped}

trace_both : (xs ys : List Moment) → trace_of (xs ++ ys) ≡ trace_of xs ++ trace_of ys
trace_both [] ys = refl
trace_both (m ∷ ms) ys = ap (λ (made : List Made). m.made ∷ made) (trace_both ms ys)

-- what the steps of a core have made
record Makes (setup : Setup) (events : List Event) (old : CoreOf) (before : Lucks) (new : CoreOf) (later : Lucks) : Type 0 where
  pub moments : List Moment
  pub all : MakeAll setup (run_of old before) events moments
  pub trace : new.trace ≡ old.trace ++ trace_of moments
  pub order : new.order ≡ old.order ++ order_of setup (run_of old before) moments
  pub run : run_of new later ≡ after_all setup (run_of old before) moments
  pub setup_is : new.setup ≡ setup

have_made : (setup : Setup) (events : List Event) (old : CoreOf) (before : Lucks) (shown : List (List Line)) (new : CoreOf)
    (later : Lucks) → old.setup ≡ setup → HaveStepped events old before shown new later → Makes setup events old before new later
unfolding after_all order_of
have_made setup [] old before [] new later is h =
    subst (λ (c : CoreOf). Makes setup [] old before c later) (sym h.0)
    (subst (λ (l : Lucks). Makes setup [] old before old l) (sym h.1)
    (record { moments = []; all = refl; trace = sym (append-nil old.trace); order = sym (append-nil old.order); run = refl; setup_is = is }))
have_made setup [] old before (lines ∷ shown) new later is h = absurd h
have_made setup (event ∷ events) old before [] new later is h = absurd h
have_made setup (event ∷ events) old before (lines ∷ shown) new later is h =
    let middle : CoreOf = h.0 in
    let told : Lucks = h.1 in
    let one = h.2 in
    let step : IsStep setup (run_of old before) event one.moments lines
    = subst (λ (s : Setup). IsStep s (run_of old before) event one.moments lines) is one.step in
    let run : run_of middle told ≡ after_all setup (run_of old before) one.moments
    = subst (λ (s : Setup). run_of middle told ≡ after_all s (run_of old before) one.moments) is one.made.run in
    let order : middle.order ≡ old.order ++ order_of setup (run_of old before) one.moments
    = subst (λ (s : Setup). middle.order ≡ old.order ++ order_of s (run_of old before) one.moments) is one.made.order in
    let rest = have_made setup events middle told shown new later (one.made.setup ∙ is) h.3 in
    record {
      moments = one.moments ++ rest.moments;
      all = (
        one.moments,
        rest.moments,
        refl,
        (lines, step),
        subst (λ (r : Run). MakeAll setup r events rest.moments) run rest.all,
      );
      trace = rest.trace ∙ (ap (λ (t : List Made). t ++ trace_of rest.moments) one.made.trace
          ∙ (append_assoc old.trace (trace_of one.moments) (trace_of rest.moments)
          ∙ ap (λ (t : List Made). old.trace ++ t) (sym (trace_both one.moments rest.moments))));
      order = rest.order ∙ (ap (λ (t : List Turn). t ++ order_of setup (run_of middle told) rest.moments) order
          ∙ (append_assoc old.order (order_of setup (run_of old before) one.moments) (order_of setup (run_of middle told) rest.moments)
          ∙ (ap (λ (r : Run). old.order ++ (order_of setup (run_of old before) one.moments ++ order_of setup r rest.moments)) run
          ∙ ap (λ (t : List Turn). old.order ++ t) (sym (order_both setup (run_of old before) one.moments rest.moments)))));
      run = rest.run ∙ (ap (λ (r : Run). after_all setup r rest.moments) run
          ∙ after_both setup (run_of old before) one.moments rest.moments);
      setup_is = rest.setup_is;
    }

-- what a file's steps and the sweep behind them have made of a core
record MakesBoth (setup : Setup) (last : CoreOf) (later : Lucks) : Type 0 where
  pub steps : List Moment
  pub swept : List Moment
  pub all : MakeAll setup (opening_run setup) setup.steps steps
  pub sweep : Sweeps setup (after_all setup (opening_run setup) steps) swept
  pub trace : last.trace ≡ trace_of (steps ++ swept)
  pub order : last.order ≡ order_of setup (opening_run setup) (steps ++ swept)
  pub ends : run_of last later ≡ after_all setup (opening_run setup) (steps ++ swept)

both_made : (setup : Setup) (shown : List (List Line)) (last : CoreOf) (run : HasRun setup shown last) → MakesBoth setup last run.later
both_made setup shown last run =
    let made = have_made setup setup.steps (opening_core setup) (planned setup) shown run.middle run.told refl run.stepped in
    let swept = run.swept in
    let opening : Run = opening_run setup in
    record {
      steps = made.moments;
      swept = swept.moments;
      all = made.all;
      sweep = subst (λ (r : Run). Sweeps setup r swept.moments) made.run
          (subst (λ (s : Setup). Sweeps s (run_of run.middle run.told) swept.moments) made.setup_is swept.sweep);
      trace = swept.made.trace ∙ (ap (λ (t : List Made). t ++ trace_of swept.moments) made.trace
          ∙ sym (trace_both made.moments swept.moments));
      order = subst (λ (s : Setup). last.order ≡ run.middle.order ++ order_of s (run_of run.middle run.told) swept.moments) made.setup_is swept.made.order
          ∙ (ap (λ (t : List Turn). t ++ order_of setup (run_of run.middle run.told) swept.moments) made.order
          ∙ (ap (λ (r : Run). order_of setup opening made.moments ++ order_of setup r swept.moments) made.run
          ∙ sym (order_both setup opening made.moments swept.moments)));
      ends = subst (λ (s : Setup). run_of last run.later ≡ after_all s (run_of run.middle run.told) swept.moments) made.setup_is swept.made.run
          ∙ (ap (λ (r : Run). after_all setup r swept.moments) made.run ∙ after_both setup opening made.moments swept.moments);
    }

-- a file's steps and the sweep: the core's trace keeps the plan, and leads to the core's cluster
pub run_keeps_plan : (setup : Setup) (shown : List (List Line)) (last : CoreOf) (run : HasRun setup shown last)
    → IsPlannedTrace setup (crash_steps setup) last.trace (run_of last run.later)
run_keeps_plan setup shown last run =
    let made = both_made setup shown last run in
    subst (λ (t : List Made). IsPlannedTrace setup (crash_steps setup) t (run_of last run.later)) (sym made.trace)
    (subst (λ (r : Run). IsPlannedTrace setup (crash_steps setup) (trace_of (made.steps ++ made.swept)) r) (sym made.ends)
    (files_keep_plans setup made.steps made.swept made.all made.sweep))

pub run_is_licensed : (setup : Setup) (shown : List (List Line)) (last : CoreOf) (end : End) → HasRun setup shown last
    → last.cluster.control.decision ≡ Some end → HasLicence setup.plan (crash_steps setup) end
run_is_licensed setup shown last end run e =
    ends_are_licensed setup (crash_steps setup) last.trace (run_of last run.later) end (run_keeps_plan setup shown last run) e

-- events that are a schedule, behind which nothing is owed
record Goes (setup : Setup) (run : Run) (moments : List Moment) : Type 0 where
  pub schedule : IsSchedule setup run moments
  pub paid : IsPaid (after_all setup run moments)

schedule_both : (setup : Setup) (run : Run) (xs ys : List Moment) → IsSchedule setup run xs
    → IsSchedule setup (after_all setup run xs) ys → IsSchedule setup run (xs ++ ys)
unfolding after_all
schedule_both setup run [] ys one more = more
schedule_both setup run (m ∷ ms) ys one more = (one.0, schedule_both setup (after setup run m) ms ys one.1 more)

has_free : (event : Event) → HasFree (λ who. 1) event
has_free (Crash r d) = omega arith
has_free other = tt

steps_go : (setup : Setup) (events : List Event) (run : Run) (moments : List Moment) → IsPaid run
    → MakeAll setup run events moments → Goes setup run moments
unfolding after_all
steps_go setup [] run moments paid h =
    subst (λ (ms : List Moment). Goes setup run ms) (sym h) (record { schedule = tt; paid = paid })
steps_go setup (event ∷ events) run moments paid h =
    let one = steps_keep_plans setup (λ who. 1) run event h.0 paid (has_free event) h.3 in
    let rest = steps_go setup events (after_all setup run h.0) h.1 one.paid h.4 in
    subst (λ (ms : List Moment). Goes setup run ms) (sym h.2) (record {
      schedule = schedule_both setup run h.0 h.1 one.schedule rest.schedule;
      paid = subst (λ (r : Run). IsPaid r) (after_both setup run h.0 h.1) rest.paid;
    })

-- a core's turns are those of a schedule from the opening state, which leads to its cluster
pub record MakesOrder (setup : Setup) (last : CoreOf) (later : Lucks) : Type 0 where
  pub moments : List Moment
  pub schedule : IsSchedule setup (opening_run setup) moments
  pub order : last.order ≡ order_of setup (opening_run setup) moments
  pub ends : run_of last later ≡ after_all setup (opening_run setup) moments

pub run_makes_order : (setup : Setup) (shown : List (List Line)) (last : CoreOf) (run : HasRun setup shown last)
    → MakesOrder setup last run.later
run_makes_order setup shown last run =
    let made = both_made setup shown last run in
    let steps = steps_go setup setup.steps (opening_run setup) made.steps refl made.all in
    let sweep = sweeps_keep_plans setup (λ who. 1) (after_all setup (opening_run setup) made.steps) made.swept steps.paid made.sweep in
    record {
      moments = made.steps ++ made.swept;
      schedule = schedule_both setup (opening_run setup) made.steps made.swept steps.schedule sweep.schedule;
      order = made.order;
      ends = made.ends;
    }

-- the same of the sweep alone
pub sweep_makes_order : (setup : Setup) (last : CoreOf) (later : Lucks) → HasSwept (opening_core setup) (planned setup) last later
    → MakesOrder setup last later
sweep_makes_order setup last later swept = record {
  moments = swept.moments;
  schedule = (sweeps_keep_plans setup (λ who. 1) (opening_run setup) swept.moments refl swept.sweep).schedule;
  order = swept.made.order;
  ends = swept.made.run;
}

pub sweep_is_licensed : (setup : Setup) (last : CoreOf) (later : Lucks) (end : End)
    → HasSwept (opening_core setup) (planned setup) last later → last.cluster.control.decision ≡ Some end
    → HasLicence setup.plan (crash_steps setup) end
sweep_is_licensed setup last later end swept e =
    let kept = sweeps_keep_plans setup (crash_steps setup) (opening_run setup) swept.moments refl swept.sweep in
    let traced : IsPlannedTrace setup (crash_steps setup) last.trace (run_of last later)
    = record { moments = swept.moments; made = swept.made.trace; schedule = kept.schedule; keeps = kept.keeps; ends = swept.made.run } in
    ends_are_licensed setup (crash_steps setup) last.trace (run_of last later) end traced e
