-- A walk over trials takes of what is left of rounds, or each of its trials rests.
use Rattle.std.proofs.Common.{◌≡◌, ◌<◌, ◌≤◌, ◌⊎◌, ℕ, Bool, true, false, cond, List, [], ◌∷◌, ◌++◌, length, refl, sym, ap, subst, ◌∙◌}
use Rattle.std.specs.Prelude.{⊤}
use native.Mathlib.Omega.{arith}
use Rattle.resh_value.specs.declared.value.ShardId.{ShardId}
use Rattle.resh_coord.specs.Control.{Control}
use Rattle.resh_setup.specs.Validity.{IsValid}
use Rattle.resh_setup.specs.declared.event.Event.{Event}
use Rattle.resh_setup.specs.declared.event.Event.TheVariants.{Clone, Fetch, Apply}
use Rattle.resh_setup.specs.declared.setup.Setup.{Setup}
use Rattle.resh_cells.specs.Cells.{link_in}
use Rattle.resh_cells.specs.declared.cluster.Cluster.{Cluster}
use Rattle.resh_events.specs.Runs.{Moment, Run, after, after_all}
use Rattle.resh_events.specs.Sweep.{AreApplies, Makes, Trial, Tries, TriesAll, all_of, applying, goes_on, next_reading, reading, step}
use Rattle.resh_events.specs.rows.Clone as clone
use Rattle.resh_events.specs.rows.Fetch as fetch
use Rattle.resh_law.specs.Laws.{EveryScheduleKeeps}
use Rattle.resh_leading.specs.Laws.{FeedsAreFew, StaysLeading}
use Rattle.resh_ready.specs.Laws.{FetchesNothing}
use Rattle.resh_sweeps.specs.Laws.{IsSweeping, has_work, rounds_left}
use Rattle.resh_sweeps.proofs.Resting.{IsTriedIn, MovesOne, Rests, SameRest, Says, StepEnds, step_ends}
use Rattle.resh_sweeps.proofs.Sweeping.{IsLed, led}

-- a trial of a round
abbrev pub IsTrialOf : Setup → Trial → Type 0
IsTrialOf setup (step event) = IsTriedIn setup event
IsTrialOf setup (reading r d) = (r.0 < length setup.shards) × (d.0 < length setup.shards)
IsTrialOf setup (applying r d l) = ⊤

abbrev pub AreTrialsOf : Setup → List Trial → Type 0
AreTrialsOf setup [] = ⊤
AreTrialsOf setup (trial ∷ trials) = IsTrialOf setup trial × AreTrialsOf setup trials

-- what a link reads where it rests
abbrev pub ReadsNothing : Bool → Cluster → ℕ → ℕ → Type 0
ReadsNothing true cluster r d = (fetch.may cluster r d ≡ false) ⊎ FetchesNothing cluster r d
ReadsNothing false cluster r d = clone.may cluster r d ≡ false

abbrev pub TrialSays : Setup → Trial → Cluster → Cluster → Type 0
TrialSays setup (step event) one other = Says event one other
TrialSays setup (reading r d) one other =
    SameRest one other × ReadsNothing (link_in one r.0 d.0).link.read_out one r.0 d.0
TrialSays setup (applying r d l) one other =
    (other.shards ≡ one.shards) × MovesOne r.0 d.0 l one other × (goes_on setup other r d l ≡ false)

pub record TrialRests (setup : Setup) (one other : Cluster) (trial : Trial) : Type 0 where
  pub control : other.control ≡ one.control
  pub links : other.links ≡ one.links
  pub says : TrialSays setup trial one other

-- each of some trials
abbrev pub AllRest : Setup → List Trial → Cluster → Cluster → Type 0
AllRest setup [] one last = last ≡ one
AllRest setup (trial ∷ trials) one last =
    (mid : Cluster) × IsLed setup mid × TrialRests setup one mid trial × AllRest setup trials mid last

after_both : (setup : Setup) (run : Run) (ms ns : List Moment)
    → after_all setup run (ms ++ ns) ≡ after_all setup (after_all setup run ms) ns
unfolding after_all
after_both setup run [] ns = refl
after_both setup run (m ∷ ms) ns = after_both setup (after setup run m) ms ns

alike : (n : ℕ) → n ≤ n
alike n = omega arith

at_most : (a b c : ℕ) → b ≤ a → c ≤ b → c ≤ a
at_most a b c h k = omega arith

first_even : (a b c : ℕ) → a ≤ c → c ≤ b → a ≤ b
first_even a b c h k = omega arith

rest_even : (a b c : ℕ) → a ≤ c → b ≤ a → b ≤ c
rest_even a b c h k = omega arith

module _ (laws : EveryScheduleKeeps) (leading : StaysLeading) (few : FeedsAreFew) (setup : Setup) (valid : IsValid setup) where
  -- what a walk becomes
  pub record WalkEnds (run last : Run) : Type 0 where
    pub sweeping : IsSweeping setup last
    pub most : rounds_left setup last ≤ rounds_left setup run

  abbrev Works : Run → Type 0
  Works run = has_work run.cluster.control.phase ≡ true

  abbrev Even : Run → Run → Type 0
  Even run last = rounds_left setup run ≤ rounds_left setup last

  none_ends : (run : Run) → IsSweeping setup run → WalkEnds run run
  none_ends run is = record { sweeping = is; most = alike (rounds_left setup run) }

  ends_then : (run mid last : Run) → WalkEnds run mid → WalkEnds mid last → WalkEnds run last
  ends_then run mid last h k = record {
    sweeping = k.sweeping;
    most = at_most (rounds_left setup run) (rounds_left setup mid) (rounds_left setup last) h.most k.most;
  }

  step_walk : (run last : Run) (event : Event) → StepEnds laws leading few setup valid run last event → WalkEnds run last
  step_walk run last event h = record { sweeping = h.sweeping; most = h.most }

  read_step : (run : Run) (r d : ShardId) (moments : List Moment) (t : Bool) → IsSweeping setup run
      → (r.0 < length setup.shards) × (d.0 < length setup.shards)
      → Makes setup run (cond t (Fetch r d) (Clone r d)) moments
      → StepEnds laws leading few setup valid run (after_all setup run moments) (cond t (Fetch r d) (Clone r d))
  read_step run r d moments true is tried made = step_ends laws leading few setup valid run (Fetch r d) moments is tried made
  read_step run r d moments false is tried made = step_ends laws leading few setup valid run (Clone r d) moments is tried made

  -- the applies of a lane
  applies_end : (run : Run) (r d : ShardId) (l : ℕ) (applies : List (List Moment)) → IsSweeping setup run
      → AreApplies setup r d l run applies → WalkEnds run (after_all setup run (all_of applies))
  unfolding after_all
  applies_end run r d l [] is h = none_ends run is
  applies_end run r d l (moments ∷ more) is (goes, made, rest) =
      let to : Run = after_all setup run moments in
      let one : StepEnds laws leading few setup valid run to (Apply r d l) = step_ends laws leading few setup valid run (Apply r d l) moments is tt made in
      subst (λ (other : Run). WalkEnds run other) (sym (after_both setup run moments (all_of more)))
      (ends_then run to (after_all setup to (all_of more)) (step_walk run to (Apply r d l) one) (applies_end to r d l more one.sweeping rest))

  trial_ends : (run : Run) (trial : Trial) (moments : List Moment) → IsSweeping setup run → IsTrialOf setup trial
      → Tries setup run trial moments → WalkEnds run (after_all setup run moments)
  trial_ends run (step event) moments is tried made =
      step_walk run (after_all setup run moments) event (step_ends laws leading few setup valid run event moments is tried made)
  trial_ends run (reading r d) moments is tried made =
      step_walk run (after_all setup run moments) (next_reading setup run.cluster r d)
      (read_step run r d moments (link_in run.cluster r.0 d.0).link.read_out is tried made)
  trial_ends run (applying r d l) moments is tried (applies, equal, made) =
      subst (λ (ms : List Moment). WalkEnds run (after_all setup run ms)) (sym equal) (applies_end run r d l applies is made)

  pub walk_ends : (run : Run) (trials : List Trial) (moments : List Moment) → IsSweeping setup run → AreTrialsOf setup trials
      → TriesAll setup run trials moments → WalkEnds run (after_all setup run moments)
  unfolding after_all
  walk_ends run [] moments is tried none =
      subst (λ (ms : List Moment). WalkEnds run (after_all setup run ms)) (sym none) (none_ends run is)
  walk_ends run (trial ∷ trials) moments is tried (first, rest, equal, made, more) =
      let to : Run = after_all setup run first in
      let one : WalkEnds run to = trial_ends run trial first is tried.0 made in
      let others : WalkEnds to (after_all setup to rest) = walk_ends to trials rest one.sweeping tried.1 more in
      subst (λ (other : Run). WalkEnds run other)
      (sym (ap (λ (ms : List Moment). after_all setup run ms) equal ∙ after_both setup run first rest))
      (ends_then run to (after_all setup to rest) one others)

  -- where nothing is taken
  record AppliesRest (one other : Cluster) (r d : ShardId) (l : ℕ) : Type 0 where
    control : other.control ≡ one.control
    links : other.links ≡ one.links
    shards : other.shards ≡ one.shards
    moves : MovesOne r.0 d.0 l one other
    ended : goes_on setup other r d l ≡ false

  still_works : (run mid : Run) → mid.cluster.control ≡ run.cluster.control → Works run → Works mid
  still_works run mid same works = subst (λ (c : Control). has_work c.phase ≡ true) (sym same) works

  none_applies : (run : Run) (r d : ShardId) (l : ℕ) → goes_on setup run.cluster r d l ≡ false → AppliesRest run.cluster run.cluster r d l
  none_applies run r d l h = record {
    control = refl;
    links = refl;
    shards = refl;
    moves = λ i j k apart. (refl, refl);
    ended = h;
  }

  applies_then : (one other last : Cluster) (r d : ShardId) (l : ℕ) → Rests one other (Apply r d l) → AppliesRest other last r d l
      → AppliesRest one last r d l
  applies_then one other last r d l h k = record {
    control = k.control ∙ h.control;
    links = k.links ∙ h.links;
    shards = k.shards ∙ h.says.0;
    moves = λ i j n apart. ((k.moves i j n apart).0 ∙ (h.says.1 i j n apart).0, (k.moves i j n apart).1 ∙ (h.says.1 i j n apart).1);
    ended = k.ended;
  }

  applies_rest : (run : Run) (r d : ShardId) (l : ℕ) (applies : List (List Moment)) → IsSweeping setup run → Works run
      → AreApplies setup r d l run applies → Even run (after_all setup run (all_of applies))
      → AppliesRest run.cluster (after_all setup run (all_of applies)).cluster r d l
  unfolding after_all
  applies_rest run r d l [] is works h even = none_applies run r d l h
  applies_rest run r d l (moments ∷ more) is works (goes, made, rest) even =
      let to : Run = after_all setup run moments in
      let last : Run = after_all setup to (all_of more) in
      let joined : after_all setup run (moments ++ all_of more) ≡ last = after_both setup run moments (all_of more) in
      let whole : Even run last = subst (λ (other : Run). Even run other) joined even in
      let one : StepEnds laws leading few setup valid run to (Apply r d l) = step_ends laws leading few setup valid run (Apply r d l) moments is tt made in
      let others : WalkEnds to last = applies_end to r d l more one.sweeping rest in
      let rests : Rests run.cluster to.cluster (Apply r d l)
      = one.rests works (first_even (rounds_left setup run) (rounds_left setup to) (rounds_left setup last) whole others.most) in
      subst (λ (other : Run). AppliesRest run.cluster other.cluster r d l) (sym joined)
      (applies_then run.cluster to.cluster last.cluster r d l rests
      (applies_rest to r d l more one.sweeping (still_works run to rests.control works) rest
      (rest_even (rounds_left setup run) (rounds_left setup to) (rounds_left setup last) whole one.most)))

  read_says : (one other : Cluster) (r d : ShardId) (t : Bool) → (link_in one r.0 d.0).link.read_out ≡ t
      → Rests one other (cond t (Fetch r d) (Clone r d)) → TrialRests setup one other (reading r d)
  read_says one other r d true is h = record {
    control = h.control;
    links = h.links;
    says = (h.says.0, subst (λ (t : Bool). ReadsNothing t one r.0 d.0) (sym is) h.says.1);
  }
  read_says one other r d false is h = record {
    control = h.control;
    links = h.links;
    says = (h.says.0, subst (λ (t : Bool). ReadsNothing t one r.0 d.0) (sym is) h.says.1);
  }

  trial_rests : (run : Run) (trial : Trial) (moments : List Moment) → IsSweeping setup run → Works run → IsTrialOf setup trial
      → Tries setup run trial moments → Even run (after_all setup run moments)
      → TrialRests setup run.cluster (after_all setup run moments).cluster trial
  trial_rests run (step event) moments is works tried made even =
      let rests : Rests run.cluster (after_all setup run moments).cluster event
      = (step_ends laws leading few setup valid run event moments is tried made).rests works even in
      record { control = rests.control; links = rests.links; says = rests.says }
  trial_rests run (reading r d) moments is works tried made even =
      let t : Bool = (link_in run.cluster r.0 d.0).link.read_out in
      read_says run.cluster (after_all setup run moments).cluster r d t refl
      ((read_step run r d moments t is tried made).rests works even)
  trial_rests run (applying r d l) moments is works tried (applies, equal, made) even =
      let rests : AppliesRest run.cluster (after_all setup run moments).cluster r d l
      = subst (λ (ms : List Moment). AppliesRest run.cluster (after_all setup run ms).cluster r d l) (sym equal)
      (applies_rest run r d l applies is works made (subst (λ (ms : List Moment). Even run (after_all setup run ms)) equal even)) in
      record { control = rests.control; links = rests.links; says = (rests.shards, rests.moves, rests.ended) }

  pub walk_rests : (run : Run) (trials : List Trial) (moments : List Moment) → IsSweeping setup run → Works run
      → AreTrialsOf setup trials → TriesAll setup run trials moments → Even run (after_all setup run moments)
      → AllRest setup trials run.cluster (after_all setup run moments).cluster
  unfolding after_all
  walk_rests run [] moments is works tried none even =
      ap (λ (ms : List Moment). (after_all setup run ms).cluster) none
  walk_rests run (trial ∷ trials) moments is works tried (first, rest, equal, made, more) even =
      let to : Run = after_all setup run first in
      let last : Run = after_all setup to rest in
      let joined : after_all setup run moments ≡ last
      = ap (λ (ms : List Moment). after_all setup run ms) equal ∙ after_both setup run first rest in
      let whole : Even run last = subst (λ (other : Run). Even run other) joined even in
      let one : WalkEnds run to = trial_ends run trial first is tried.0 made in
      let others : WalkEnds to last = walk_ends to trials rest one.sweeping tried.1 more in
      let rests : TrialRests setup run.cluster to.cluster trial
      = trial_rests run trial first is works tried.0 made
      (first_even (rounds_left setup run) (rounds_left setup to) (rounds_left setup last) whole others.most) in
      subst (λ (other : Run). AllRest setup (trial ∷ trials) run.cluster other.cluster) (sym joined) (
        to.cluster,
        led setup to one.sweeping,
        rests,
        walk_rests to trials rest one.sweeping (still_works run to rests.control works) tried.1 more
            (rest_even (rounds_left setup run) (rounds_left setup to) (rounds_left setup last) whole one.most),
      )
