-- Trials that were made one after another, put together to rounds and a sweep.
use Rattle.std.proofs.Common.{◌≡◌, ◌<◌, ℕ, ◌+◌, Bool, true, false, List, [], ◌∷◌, ◌++◌, Option, refl, sym, ◌∙◌, ap, subst, append_assoc}
use Rattle.std.specs.List.{flat_map, range_with_len}
use Rattle.resh_value.specs.declared.value.ShardId.{ShardId}
use Rattle.resh_setup.specs.declared.event.Event.{Event}
use Rattle.resh_setup.specs.declared.event.Event.TheVariants.{Apply}
use Rattle.resh_setup.specs.declared.setup.Setup.{Setup}
use Rattle.resh_setup.specs.declared.trace.Made.{Made}
use Rattle.resh_setup.specs.declared.turn.Turn.{Turn}
use Rattle.resh_events.specs.Lucks.{Lucks}
use Rattle.resh_events.specs.Runs.{Moment, Run, after, after_all}
use Rattle.resh_events.specs.Schedules.{trace_of}
use Rattle.resh_setup.specs.declared.seen.Seen.TheVariants.{Idle}
use Rattle.resh_events.specs.Steps.{Line, idles, may_step}
use Rattle.resh_events.specs.Sweep.{AreApplies, IsSweep, Makes, Trial, Tries, TriesAll, all_of, applying, goes_on, is_over, next_reading, reading, round, step}
use Rattle.resh_events.specs.Turns.{order_of, turns_of}
use Rattle.resh_model.specs.Orders.{opening, walked}
use Rattle.resh_ending.specs.Applies.{applies_left}
use Rattle.resh_ending.proofs.Applying.{applies_end}
use Rattle.resh_sweeps.specs.Laws.{RoundsEnd, rounds_left}
use Rattle.resh_core.specs.Cores.{CoreOf, HasMade, HasStepped, HasSwept, IsSound, run_of}
use Rattle.resh_core.specs.Making.{core_of}
use Rattle.resh_core.specs.Sweeping.{HasApplied, HasRounds, HasTried, SomeApplies, SomeRounds}
use Rattle.resh_core.specs.declared.making.State.{State}
use Rattle.resh_core.proofs.ListLaws.{append_none, flat_append, flat_more}

pub after_both : (setup : Setup) (run : Run) (ms ns : List Moment)
    → after_all setup run (ms ++ ns) ≡ after_all setup (after_all setup run ms) ns
unfolding after_all
after_both setup run [] ns = refl
after_both setup run (m ∷ ms) ns = after_both setup (after setup run m) ms ns

pub order_both : (setup : Setup) (run : Run) (ms ns : List Moment)
    → order_of setup run (ms ++ ns) ≡ order_of setup run ms ++ order_of setup (after_all setup run ms) ns
unfolding after_all order_of
order_both setup run [] ns = refl
order_both setup run (m ∷ ms) ns =
    ap (λ (t : List Turn). turns_of setup run m ++ t) (order_both setup (after setup run m) ms ns)
    ∙ sym (append_assoc (turns_of setup run m) (order_of setup (after setup run m) ms) _)

pub trace_both : (ms ns : List Moment) → trace_of (ms ++ ns) ≡ trace_of ms ++ trace_of ns
trace_both [] ns = refl
trace_both (m ∷ ms) ns = ap (λ (t : List Made). m.made ∷ t) (trace_both ms ns)

pub made_both : (setup : Setup) (old mid new : State) (before between later : Lucks) (ms ns : List Moment)
    → HasMade (core_of setup old) before ms (core_of setup mid) between
    → HasMade (core_of setup mid) between ns (core_of setup new) later
    → HasMade (core_of setup old) before (ms ++ ns) (core_of setup new) later
made_both setup old mid new before between later ms ns h k =
    let run : Run = run_of (core_of setup old) before in
    record {
      setup = refl;
      trace = k.trace ∙ ap (λ (t : List Made). t ++ trace_of ns) h.trace ∙ append_assoc old.trace (trace_of ms) (trace_of ns)
          ∙ ap (λ (t : List Made). old.trace ++ t) (sym (trace_both ms ns));
      order = k.order ∙ ap (λ (t : List Turn). t ++ order_of setup (run_of (core_of setup mid) between) ns) h.order
          ∙ append_assoc old.order (order_of setup run ms) _
          ∙ ap (λ (r : Run). old.order ++ (order_of setup run ms ++ order_of setup r ns)) h.run
          ∙ ap (λ (t : List Turn). old.order ++ t) (sym (order_both setup run ms ns));
      run = k.run ∙ ap (λ (r : Run). after_all setup r ns) h.run ∙ sym (after_both setup run ms ns);
    }

tries_both : (setup : Setup) (run : Run) (ts us : List Trial) (ms ns : List Moment) → TriesAll setup run ts ms
    → TriesAll setup (after_all setup run ms) us ns → TriesAll setup run (ts ++ us) (ms ++ ns)
unfolding after_all
tries_both setup run [] us ms ns h k =
    let at : TriesAll setup run us ns = subst (λ (x : List Moment). TriesAll setup (after_all setup run x) us ns) h k in
    subst (λ (x : List Moment). TriesAll setup run us (x ++ ns)) (sym h) at
tries_both setup run (t ∷ ts) us ms ns (first, rest, is, tried, more) k =
    let run2 : Run = after_all setup run first in
    let at : TriesAll setup (after_all setup run2 rest) us ns =
    subst (λ (r : Run). TriesAll setup r us ns)
    (ap (λ (x : List Moment). after_all setup run x) is ∙ after_both setup run first rest) k in (
      first,
      rest ++ ns,
      ap (λ (x : List Moment). x ++ ns) is ∙ append_assoc first rest ns,
      tried,
      tries_both setup run2 ts us rest ns more at,
    )

pub tried_both : (setup : Setup) (old mid new : State) (before between later : Lucks) (ts us : List Trial)
    → HasTried setup old before ts mid between → HasTried setup mid between us new later
    → HasTried setup old before (ts ++ us) new later
tried_both setup old mid new before between later ts us h k = record {
  moments = h.moments ++ k.moments;
  tries = tries_both setup (run_of (core_of setup old) before) ts us h.moments k.moments h.tries
      (subst (λ (r : Run). TriesAll setup r us k.moments) h.made.run k.tries);
  made = made_both setup old mid new before between later h.moments k.moments h.made k.made;
  sound = k.sound;
}

pub tried_none : (setup : Setup) (state : State) (lucks : Lucks) → IsSound setup state.order state.cluster
    → HasTried setup state lucks [] state lucks
unfolding after_all order_of
tried_none setup state lucks sound = record {
  moments = [];
  tries = refl;
  made = record { setup = refl; trace = sym (append_none state.trace); order = sym (append_none state.order); run = refl };
  sound = sound;
}

-- a trial that is one step
pub tried_step : (setup : Setup) (old new : State) (before later : Lucks) (e : Event) (lines : List Line)
    → HasStepped (core_of setup old) before e lines (core_of setup new) later → IsSound setup new.order new.cluster
    → HasTried setup old before (step e ∷ []) new later
tried_step setup old new before later e lines h sound = record {
  moments = h.moments;
  tries = (h.moments, [], sym (append_none h.moments), (lines, h.step), refl);
  made = h.made;
  sound = sound;
}

-- a trial that is idle
pub tried_idle : (setup : Setup) (state : State) (lucks : Lucks) (e : Event) → IsSound setup state.order state.cluster
    → may_step setup state.cluster e ≡ false → HasTried setup state lucks (step e ∷ []) state lucks
unfolding after_all order_of
tried_idle setup state lucks e sound idle = record {
  moments = [];
  tries = ([], [], refl, ((e, Idle) ∷ [], idles idle refl refl), refl);
  made = record { setup = refl; trace = sym (append_none state.trace); order = sym (append_none state.order); run = refl };
  sound = sound;
}

-- a link's reading is a step of what it reads next
pub tried_reading : (setup : Setup) (old new : State) (before later : Lucks) (r d : ShardId) (e : Event)
    → e ≡ next_reading setup old.cluster r d → HasTried setup old before (step e ∷ []) new later
    → HasTried setup old before (reading r d ∷ []) new later
tried_reading setup old new before later r d e is h = record {
  moments = h.moments;
  tries = (
    h.tries.0,
    h.tries.1,
    h.tries.2,
    subst (λ (x : Event). Makes setup (run_of (core_of setup old) before) x h.tries.0) is h.tries.3,
    h.tries.4,
  );
  made = h.made;
  sound = h.sound;
}

pub tried_more : (setup : Setup) (f : ℕ → List Trial) (n : ℕ) (old mid new : State) (before between later : Lucks)
    → HasTried setup old before (flat_map f (range_with_len 0 n)) mid between → HasTried setup mid between (f n) new later
    → HasTried setup old before (flat_map f (range_with_len 0 (n + 1))) new later
tried_more setup f n old mid new before between later h k =
    subst (λ (ts : List Trial). HasTried setup old before ts new later) (sym (flat_more f n))
    (tried_both setup old mid new before between later (flat_map f (range_with_len 0 n)) (f n) h k)

all_more : (lists : List (List Moment)) (moments : List Moment) → all_of (lists ++ moments ∷ []) ≡ all_of lists ++ moments
all_more lists moments = flat_append (λ (x : List Moment). x) lists (moments ∷ [])
    ∙ ap (λ (t : List Moment). all_of lists ++ t) (append_none moments)

after_more : (setup : Setup) (run : Run) (y : List Moment) (ys : List (List Moment))
    → after_all setup run (all_of (y ∷ ys)) ≡ after_all setup (after_all setup run y) (all_of ys)
after_more setup run y ys = after_both setup run y (all_of ys)

some_more : (setup : Setup) (r d : ShardId) (l : ℕ) (run : Run) (xs : List (List Moment)) (ms : List Moment)
    → SomeApplies setup r d l run xs → goes_on setup (after_all setup run (all_of xs)).cluster r d l ≡ true
    → Makes setup (after_all setup run (all_of xs)) (Apply r d l) ms → SomeApplies setup r d l run (xs ++ ms ∷ [])
unfolding after_all
some_more setup r d l run [] ms h g m = (g, m, tt)
some_more setup r d l run (y ∷ ys) ms (goes, makes, more) g m =
    let e : after_all setup run (all_of (y ∷ ys)) ≡ after_all setup (after_all setup run y) (all_of ys) = after_more setup run y ys in (
      goes,
      makes,
      some_more setup r d l (after_all setup run y) ys ms more
          (subst (λ (x : Run). goes_on setup x.cluster r d l ≡ true) e g)
          (subst (λ (x : Run). Makes setup x (Apply r d l) ms) e m),
    )

some_end : (setup : Setup) (r d : ShardId) (l : ℕ) (run : Run) (xs : List (List Moment))
    → SomeApplies setup r d l run xs → goes_on setup (after_all setup run (all_of xs)).cluster r d l ≡ false
    → AreApplies setup r d l run xs
unfolding after_all
some_end setup r d l run [] h g = g
some_end setup r d l run (y ∷ ys) (goes, makes, more) g = (
  goes,
  makes,
  some_end setup r d l (after_all setup run y) ys more
      (subst (λ (x : Run). goes_on setup x.cluster r d l ≡ false) (after_more setup run y ys) g),
)

rounds_more : (setup : Setup) (run : Run) (xs : List (List Moment)) (ms : List Moment)
    → SomeRounds setup run xs → is_over setup (after_all setup run (all_of xs)).cluster ≡ false
    → TriesAll setup (after_all setup run (all_of xs)) (round setup) ms → SomeRounds setup run (xs ++ ms ∷ [])
unfolding after_all
rounds_more setup run [] ms h g m = (g, m, tt)
rounds_more setup run (y ∷ ys) ms (goes, makes, more) g m =
    let e : after_all setup run (all_of (y ∷ ys)) ≡ after_all setup (after_all setup run y) (all_of ys) = after_more setup run y ys in (
      goes,
      makes,
      rounds_more setup (after_all setup run y) ys ms more
          (subst (λ (x : Run). is_over setup x.cluster ≡ false) e g)
          (subst (λ (x : Run). TriesAll setup x (round setup) ms) e m),
    )

rounds_end : (setup : Setup) (run : Run) (xs : List (List Moment))
    → SomeRounds setup run xs → is_over setup (after_all setup run (all_of xs)).cluster ≡ true → IsSweep setup run xs
unfolding after_all
rounds_end setup run [] h g = g
rounds_end setup run (y ∷ ys) (goes, makes, more) g = (
  goes,
  makes,
  rounds_end setup (after_all setup run y) ys more
      (subst (λ (x : Run). is_over setup x.cluster ≡ true) (after_more setup run y ys) g),
)

pub applied_none : (setup : Setup) (r d : ShardId) (l : ℕ) (state : State) (lucks : Lucks) → IsSound setup state.order state.cluster
    → HasApplied setup r d l state lucks state lucks
unfolding after_all order_of
applied_none setup r d l state lucks sound = record {
  applies = [];
  some = tt;
  made = record { setup = refl; trace = sym (append_none state.trace); order = sym (append_none state.order); run = refl };
  sound = sound;
}

pub applied_more : (setup : Setup) (r d : ShardId) (l : ℕ) (old mid new : State) (before between later : Lucks) (lines : List Line)
    → HasApplied setup r d l old before mid between → goes_on setup mid.cluster r d l ≡ true
    → HasStepped (core_of setup mid) between (Apply r d l) lines (core_of setup new) later → IsSound setup new.order new.cluster
    → HasApplied setup r d l old before new later
applied_more setup r d l old mid new before between later lines h g k sound =
    let run : Run = run_of (core_of setup old) before in
    let e : run_of (core_of setup mid) between ≡ after_all setup run (all_of h.applies) = h.made.run in
    record {
      applies = h.applies ++ k.moments ∷ [];
      some = some_more setup r d l run h.applies k.moments h.some
          (subst (λ (x : Run). goes_on setup x.cluster r d l ≡ true) e g)
          (subst (λ (x : Run). Makes setup x (Apply r d l) k.moments) e (lines, k.step));
      made = subst (λ (ms : List Moment). HasMade (core_of setup old) before ms (core_of setup new) later)
          (sym (all_more h.applies k.moments))
          (made_both setup old mid new before between later (all_of h.applies) k.moments h.made k.made);
      sound = sound;
    }

-- what is left of a lane's applies is less after each
pub apply_falls : (setup : Setup) (r d : ShardId) (l : ℕ) (mid new : State) (between later : Lucks) (lines : List Line)
    → IsSound setup mid.order mid.cluster → goes_on setup mid.cluster r d l ≡ true
    → HasStepped (core_of setup mid) between (Apply r d l) lines (core_of setup new) later
    → applies_left setup new.cluster later r d l < applies_left setup mid.cluster between r d l
apply_falls setup r d l mid new between later lines sound g k =
    let run : Run = run_of (core_of setup mid) between in
    subst (λ (x : Run). applies_left setup x.cluster x.lucks r d l < applies_left setup mid.cluster between r d l) (sym k.made.run)
    (applies_end setup run r d l k.moments sound.shaped refl g (lines, k.step))

pub applied_end : (setup : Setup) (r d : ShardId) (l : ℕ) (old new : State) (before later : Lucks)
    → HasApplied setup r d l old before new later → goes_on setup new.cluster r d l ≡ false
    → HasTried setup old before (applying r d l ∷ []) new later
applied_end setup r d l old new before later h g =
    let run : Run = run_of (core_of setup old) before in
    record {
      moments = all_of h.applies;
      tries = (
        all_of h.applies,
        [],
        sym (append_none (all_of h.applies)),
        (
          h.applies,
          refl,
          some_end setup r d l run h.applies h.some
              (subst (λ (x : Run). goes_on setup x.cluster r d l ≡ false) h.made.run g),
        ),
        refl,
      );
      made = h.made;
      sound = h.sound;
    }

pub rounds_none : (setup : Setup) (state : State) (lucks : Lucks) → IsSound setup state.order state.cluster
    → HasRounds setup state lucks state lucks
unfolding after_all order_of
rounds_none setup state lucks sound = record {
  rounds = [];
  some = tt;
  made = record { setup = refl; trace = sym (append_none state.trace); order = sym (append_none state.order); run = refl };
  sound = sound;
}

pub round_more : (setup : Setup) (old mid new : State) (before between later : Lucks)
    → HasRounds setup old before mid between → is_over setup mid.cluster ≡ false
    → HasTried setup mid between (round setup) new later → HasRounds setup old before new later
round_more setup old mid new before between later h g k =
    let run : Run = run_of (core_of setup old) before in
    let e : run_of (core_of setup mid) between ≡ after_all setup run (all_of h.rounds) = h.made.run in
    record {
      rounds = h.rounds ++ k.moments ∷ [];
      some = rounds_more setup run h.rounds k.moments h.some
          (subst (λ (x : Run). is_over setup x.cluster ≡ false) e g)
          (subst (λ (x : Run). TriesAll setup x (round setup) k.moments) e k.tries);
      made = subst (λ (ms : List Moment). HasMade (core_of setup old) before ms (core_of setup new) later)
          (sym (all_more h.rounds k.moments))
          (made_both setup old mid new before between later (all_of h.rounds) k.moments h.made k.made);
      sound = k.sound;
    }

pub round_end : (setup : Setup) (old new : State) (before later : Lucks)
    → HasRounds setup old before new later → is_over setup new.cluster ≡ true
    → HasSwept (core_of setup old) before (core_of setup new) later
round_end setup old new before later h g = record {
  moments = all_of h.rounds;
  sweep = (
    h.rounds,
    refl,
    rounds_end setup (run_of (core_of setup old) before) h.rounds h.some
        (subst (λ (x : Run). is_over setup x.cluster ≡ true) h.made.run g),
  );
  made = h.made;
}

-- what is left of a sweep's rounds is less after each
pub round_falls : (setup : Setup) (mid new : State) (between later : Lucks) → RoundsEnd → IsSound setup mid.order mid.cluster
    → is_over setup mid.cluster ≡ false → HasTried setup mid between (round setup) new later
    → rounds_left setup (run_of (core_of setup new) later) < rounds_left setup (run_of (core_of setup mid) between)
round_falls setup mid new between later ends sound goes h =
    let run : Run = run_of (core_of setup mid) between in
    subst (λ (r : Run). rounds_left setup r < rounds_left setup run) (sym h.made.run)
    (ends setup run h.moments sound.valid (record {
      state = walked setup (opening setup) mid.order;
      kept = sound.turns.1;
      leads = sound.leads;
      running = sound.running;
      shaped = sound.shaped;
      paid = refl;
    }) goes h.tries)
