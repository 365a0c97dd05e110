-- What steps and sweeps make is a schedule that keeps the plan.
use Rattle.std.proofs.Common.{◌≡◌, ◌≤◌, inl, ℕ, zero, suc, ◌+◌, ◌-◌, ◌==◌, remove, Bool, true, false, cond, List, [], ◌∷◌, ◌++◌, length, filter, Option, Some, None, refl, sym, ap, subst, append_assoc, arith}
use Rattle.std.specs.List.{flat_map, range_with_len}
use Rattle.std.specs.Option.{option_map}
use Rattle.std.specs.Prelude.{⊤}
use Rattle.resh_value.specs.declared.value.ShardId.{ShardId}
use Rattle.resh_coord.specs.declared.cause.Why.TheVariants as why
use Rattle.resh_shard.specs.Writes.{shard_id}
use Rattle.resh_setup.specs.declared.event.Event.{Event}
use Rattle.resh_setup.specs.declared.event.Event.TheVariants.{Client, Begin, Tell, Advance, Clone, Fetch, Record, Crash, Report, Fail}
use Rattle.resh_setup.specs.declared.plan.Who.{Who}
use Rattle.resh_setup.specs.declared.plan.Who.TheVariants.{Coordinator, Link, Lane}
use Rattle.resh_setup.specs.declared.setup.Setup.{Setup}
use Rattle.resh_setup.specs.declared.trace.Met.{Met}
use Rattle.resh_setup.specs.declared.trace.Met.TheVariants.{Row, CrashedBefore, CrashedAfter, Failed, Lost, NoMemory, NoMemoryInMove}
use Rattle.resh_model.specs.Licence.{crash_steps, is_crash_of, same_who}
use Rattle.resh_cells.specs.Cells.{link_in}
use Rattle.resh_cells.specs.declared.cluster.Cluster.{Cluster}
use Rattle.resh_events.specs.Follows.{after_failing, after_fate, after_losses, after_row, failure, follows, limit, only_if, own_link, wanted}
use Rattle.resh_events.specs.Luck.{Asks, asks, quiet, commits, delivers}
use Rattle.resh_events.specs.Lucks.{Lucks}
use Rattle.resh_events.specs.Plans.{Free, KeepsPlan, MayCrash, free_after, given_by}
use Rattle.resh_events.specs.Runs.{Moment, Owed, Run, after, after_all, cluster_after, asked_by, opening_run, owes}
use Rattle.resh_events.specs.Schedules.{IsSchedule, trace_of}
use Rattle.resh_events.specs.Steps.{IsStep, Line, first_moment, idles, makes, owed_first, owed_moment, paid}
use Rattle.resh_events.specs.Sweep.{AreApplies, IsSweep, Makes, Sweeps, Trial, Tries, TriesAll, all_of, applying, link_round, next_reading, reading, round, step}
use Rattle.resh_licence.specs.Keeping.{HasFree, IsPaid, Keep, MakeAll}
use Rattle.resh_licence.specs.Laws.{FilesAreLicensed, FilesKeepPlans, StepsKeepPlans, SweepsKeepPlans}
use Rattle.resh_licence.proofs.Licensed.{ends_are_licensed}
use Rattle.resh_licence.proofs.Licensing.{kept_free}
use Rattle.resh_licence.proofs.Numbers.{both_itself, count_more, one}

-- an event that follows another, which so many more may follow at most
abbrev pub Within : ℕ → Event → Type 0
Within n (Fail named cause) = ⊤
Within zero (Crash r d) = ⊥
Within (suc n) (Crash r d) = ⊤
Within n other = ⊥

abbrev pub Depth : ℕ → List Owed → Type 0
Depth n [] = ⊤
Depth zero (o ∷ os) = ⊥
Depth (suc n) (o ∷ os) = (os ≡ []) × Within n o.event

only_depth : (n time : ℕ) (t : Bool) (event : Event) → Within n event → Depth (suc n) (owes time (only_if t event))
only_depth n time true event within = (refl, within)
only_depth n time false event within = tt

row_depth : (n time : ℕ) (next : Cluster) (event : Event) → Within n event → Depth n (owes time (after_row next event))
row_depth n time next (Fail named cause) within = tt
row_depth zero time next (Crash r d) within = absurd within
row_depth (suc n) time next (Crash r d) within =
    only_depth n time ((link_in next r.0 d.0).link.crashes == limit) (failure (Link r d) why.Crashes) tt
row_depth n time next other within = absurd within

first_row : (time : ℕ) (next : Cluster) (event : Event) → Depth 2 (owes time (after_row next event))
first_row time next (Crash r d) =
    only_depth 1 time ((link_in next r.0 d.0).link.crashes == limit) (failure (Link r d) why.Crashes) tt
first_row time next other = tt

first_fate : (time : ℕ) (next : Cluster) (asked : Asks) → Depth 2 (owes time (after_fate next asked))
first_fate time next quiet = tt
first_fate time next (commits Coordinator) =
    only_depth 1 time (next.control.crashes == limit) (failure Coordinator why.Crashes) tt
first_fate time next (commits (Link r d)) = only_depth 1 time (link_in next r.0 d.0).link.is_open (Crash r d) tt
first_fate time next (commits (Lane r d l)) = only_depth 1 time (link_in next r.0 d.0).link.is_open (Crash r d) tt
first_fate time next (delivers who) = tt

first_failing : (time : ℕ) (asked : Asks) → Depth 2 (owes time (after_failing asked))
first_failing time quiet = tt
first_failing time (commits who) = (refl, tt)
first_failing time (delivers who) = tt

first_losses : (time : ℕ) (asked : Asks) → Depth 2 (owes time (after_losses asked))
first_losses time quiet = tt
first_losses time (commits who) = tt
first_losses time (delivers who) = (refl, tt)

first_want : (time : ℕ) (named : Option (ShardId × ShardId)) → Depth 2 (owes time (option_map wanted named))
first_want time None = tt
first_want time (Some named) = (refl, tt)

-- at most a crash follows an event, and a failure behind that
first_depth : (time : ℕ) (next : Cluster) (event : Event) (asked : Asks) (met : Met) → Depth 2 (owes time (follows next event asked met))
first_depth time next event asked Row = first_row time next event
first_depth time next event asked CrashedBefore = first_fate time next asked
first_depth time next event asked CrashedAfter = first_fate time next asked
first_depth time next event asked Failed = first_failing time asked
first_depth time next event asked Lost = first_losses time asked
first_depth time next event asked NoMemory = first_want time (own_link event)
first_depth time next event asked NoMemoryInMove = tt

none_left : (owed : List Owed) → Depth zero owed → owed ≡ []
none_left [] h = refl
none_left (o ∷ os) h = absurd h

may_owed : (free : Free) (event : Event) (place : ℕ) → MayCrash free event (Some place)
may_owed free (Crash r d) place = tt
may_owed free other place = tt

-- a plan is kept with more free crashes
one_wider : (b : Bool) (f g : ℕ) → f ≤ g → cond b (f - 1) f ≤ cond b (g - 1) g
one_wider true f g le = omega arith
one_wider false f g le = le

after_wider : (f g : Free) (event : Event) (place : Option ℕ) → ((who : Who) → f who ≤ g who) → (who : Who)
    → free_after f event place who ≤ free_after g event place who
after_wider f g (Crash r d) None le who = one_wider (same_who who (Link r d)) (f who) (g who) (le who)
after_wider f g (Crash r d) (Some place) le who = le who
after_wider f g other place le who = le who

may_wider : (f g : Free) (event : Event) (place : Option ℕ) → ((who : Who) → f who ≤ g who) → MayCrash f event place
    → MayCrash g event place
may_wider f g (Crash r d) None le may = let more = le (Link r d) in omega arith
may_wider f g (Crash r d) (Some place) le may = tt
may_wider f g other place le may = tt

one_fewer : (b : Bool) (f : ℕ) → cond b (f - 1) f ≤ f
one_fewer true f = omega arith
one_fewer false f = omega arith

fewer : (f : Free) (event : Event) (who : Who) → free_after f event None who ≤ f who
fewer f (Crash r d) who = one_fewer (same_who who (Link r d)) (f who)
fewer f other who = omega arith

module _ (setup : Setup) where
  wider : (f g : Free) (run : Run) (ms : List Moment) → ((who : Who) → f who ≤ g who) → KeepsPlan setup f run ms
      → KeepsPlan setup g run ms
  wider f g run [] le keeps = tt
  wider f g run (m ∷ ms) le keeps = (
    keeps.0,
    may_wider f g m.made.event m.given.place le keeps.1,
    wider (free_after f m.made.event m.given.place) (free_after g m.made.event m.given.place) (after setup run m) ms
        (after_wider f g m.made.event m.given.place le) keeps.2,
  )

  pub after_both : (run : Run) (xs ys : List Moment) → after_all setup (after_all setup run xs) ys ≡ after_all setup run (xs ++ ys)
  unfolding after_all
  after_both run [] ys = refl
  after_both run (m ∷ ms) ys = after_both (after setup run m) ms ys

  schedule_both : (run : Run) (xs ys : List Moment) → IsSchedule setup run xs → IsSchedule setup (after_all setup run xs) ys
      → IsSchedule setup run (xs ++ ys)
  unfolding after_all
  schedule_both run [] ys one more = more
  schedule_both run (m ∷ ms) ys one more = (one.0, schedule_both (after setup run m) ms ys one.1 more)

  back_row : (n : ℕ) (cluster : Cluster) (lucks : Lucks) (event : Event) → Within n event
      → Row ≡ given_by setup lucks (asks cluster event None)
  back_row n cluster lucks (Fail named cause) within = refl
  back_row n cluster lucks (Crash r d) within = refl
  back_row n cluster lucks other within = absurd within

  -- what was owed has happened, and the plan is kept as what comes behind keeps it
  record Pays (run : Run) (moments : List Moment) : Type 0 where
    pub paid : IsPaid (after_all setup run moments)
    pub keeps : (free : Free) (more : List Moment) → KeepsPlan setup free (after_all setup run moments) more
        → KeepsPlan setup free run (moments ++ more)

  next_depth : (n : ℕ) (run : Run) (o : Owed) (rest : List Owed) → run.owed ≡ o ∷ rest → Depth (suc n) (o ∷ rest)
      → Depth n (after setup run (owed_moment setup run o)).owed
  unfolding after
  next_depth n run o rest e h =
      let next : Cluster = cluster_after setup run (owed_moment setup run o) in
      let time : ℕ = (owed_moment setup run o).made.stamp.time in
      subst (λ (owed : List Owed). Depth n (remove owed 0 ++ owes time (after_row next o.event))) (sym e)
      (subst (λ (left : List Owed). Depth n (left ++ owes time (after_row next o.event))) (sym h.0)
      (row_depth n time next o.event h.1))

  first_pays : (n : ℕ) (run : Run) (owed : List Owed) → run.owed ≡ owed → Depth (suc n) owed
      → ((later : Run) → Depth n later.owed → Pays later (paid setup n later))
      → Pays run (owed_first setup run owed (λ later. paid setup n later))
  unfolding after_all
  first_pays n run [] e h pays = record { paid = e; keeps = λ free more keeps. keeps }
  first_pays n run (o ∷ rest) e h pays =
      let next : Run = after setup run (owed_moment setup run o) in
      let rest_pays : Pays next (paid setup n next) = pays next (next_depth n run o rest e h) in
      record {
        paid = rest_pays.paid;
        keeps = λ free more keeps. (
          inl (back_row n run.cluster run.lucks o.event h.1),
          may_owed free o.event 0,
          subst (λ (f : Free). KeepsPlan setup f next (paid setup n next ++ more)) (sym (kept_free free o.event 0))
              (rest_pays.keeps free more keeps),
        );
      }

  all_pays : (n : ℕ) (run : Run) → Depth n run.owed → Pays run (paid setup n run)
  unfolding after_all
  all_pays zero run h = record { paid = none_left run.owed h; keeps = λ free more keeps. keeps }
  all_pays (suc n) run h = first_pays n run run.owed refl h (λ later depth. all_pays n later depth)

  -- what a step makes: a crash that is a step is free
  record Goes (event : Event) (run : Run) (moments : List Moment) : Type 0 where
    pub schedule : IsSchedule setup run moments
    pub paid : IsPaid (after_all setup run moments)
    pub keeps : (free : Free) (more : List Moment) → MayCrash free event None
        → KeepsPlan setup (free_after free event None) (after_all setup run moments) more
        → KeepsPlan setup free run (moments ++ more)

  idle_goes : (event : Event) (run : Run) → IsPaid run → Goes event run []
  unfolding after_all
  idle_goes event run is_paid = record {
    schedule = tt;
    paid = is_paid;
    keeps = λ free more may keeps. wider (free_after free event None) free run more (fewer free event) keeps;
  }

  after_first : (run : Run) (event : Event) (met : Met) → IsPaid run
      → Depth 2 (after setup run (first_moment setup run event met)).owed
  unfolding after
  after_first run event met is_paid =
      let m : Moment = first_moment setup run event met in
      let more : List Owed = owes m.made.stamp.time (follows (cluster_after setup run m) event (asked_by run m) met) in
      subst (λ (owed : List Owed). Depth 2 (owed ++ more)) (sym is_paid)
      (first_depth m.made.stamp.time (cluster_after setup run m) event (asked_by run m) met)

  step_goes : (event : Event) (run : Run) (moments : List Moment) (lines : List Line) → IsPaid run
      → IsStep setup run event moments lines → Goes event run moments
  unfolding after_all
  step_goes event run moments lines is_paid (idles may none shown) =
      subst (λ (ms : List Moment). Goes event run ms) (sym none) (idle_goes event run is_paid)
  step_goes event run moments lines is_paid (makes met may answers made schedule shown) =
      let m : Moment = first_moment setup run event met in
      let next : Run = after setup run m in
      let pays : Pays next (paid setup 2 next) = all_pays 2 next (after_first run event met is_paid) in
      subst (λ (ms : List Moment). Goes event run ms) (sym made)
      (record {
        schedule = subst (λ (ms : List Moment). IsSchedule setup run ms) made schedule;
        paid = pays.paid;
        keeps = λ free more free_crash keeps. (answers, free_crash, pays.keeps (free_after free event None) more keeps);
      })

  has_may : (free : Free) (event : Event) → HasFree free event → MayCrash free event None
  has_may free (Crash r d) h = h
  has_may free other h = tt

  to_nothing : (ms : List Moment) → ms ++ [] ≡ ms
  to_nothing [] = refl
  to_nothing (m ∷ ms) = ap (λ (rest : List Moment). m ∷ rest) (to_nothing ms)

  keep_of : (free : Free) (event : Event) (run : Run) (moments : List Moment) → HasFree free event → Goes event run moments
      → Keep setup free run moments
  keep_of free event run moments h goes = record {
    schedule = goes.schedule;
    keeps = subst (λ (ms : List Moment). KeepsPlan setup free run ms) (to_nothing moments) (goes.keeps free [] (has_may free event h) tt);
    paid = goes.paid;
  }

  -- a step that crashes no link leaves what is free
  abbrev IsCalm : Event → Type 0
  IsCalm (Crash r d) = ⊥
  IsCalm other = ⊤

  calm_may : (free : Free) (event : Event) → IsCalm event → MayCrash free event None
  calm_may free (Crash r d) calm = absurd calm
  calm_may free other calm = tt

  calm_free : (free : Free) (event : Event) → IsCalm event → free ≡ free_after free event None
  calm_free free (Crash r d) calm = absurd calm
  calm_free free other calm = refl

  record Sweeping (run : Run) (moments : List Moment) : Type 0 where
    pub schedule : IsSchedule setup run moments
    pub paid : IsPaid (after_all setup run moments)
    pub keeps : (free : Free) (more : List Moment) → KeepsPlan setup free (after_all setup run moments) more
        → KeepsPlan setup free run (moments ++ more)

  none_sweeps : (run : Run) → IsPaid run → Sweeping run []
  unfolding after_all
  none_sweeps run is_paid = record { schedule = tt; paid = is_paid; keeps = λ free more keeps. keeps }

  both_sweep : (run : Run) (xs ys : List Moment) → Sweeping run xs → Sweeping (after_all setup run xs) ys → Sweeping run (xs ++ ys)
  both_sweep run xs ys one more = record {
    schedule = schedule_both run xs ys one.schedule more.schedule;
    paid = subst IsPaid (after_both run xs ys) more.paid;
    keeps = λ free last keeps.
        subst (λ (ms : List Moment). KeepsPlan setup free run ms) (sym (append_assoc xs ys last))
        (one.keeps free (ys ++ last)
        (more.keeps free last (subst (λ (r : Run). KeepsPlan setup free r last) (sym (after_both run xs ys)) keeps)));
  }

  makes_sweep : (event : Event) (run : Run) (moments : List Moment) → IsCalm event → IsPaid run → Makes setup run event moments
      → Sweeping run moments
  makes_sweep event run moments calm is_paid is =
      let goes = step_goes event run moments is.0 is_paid is.1 in
      record {
        schedule = goes.schedule;
        paid = goes.paid;
        keeps = λ free more keeps. goes.keeps free more (calm_may free event calm)
            (subst (λ (f : Free). KeepsPlan setup f (after_all setup run moments) more) (calm_free free event calm) keeps);
      }

  applies_sweep : (r d : ShardId) (l : ℕ) (run : Run) (applies : List (List Moment)) → IsPaid run
      → AreApplies setup r d l run applies → Sweeping run (all_of applies)
  applies_sweep r d l run [] is_paid is = none_sweeps run is_paid
  applies_sweep r d l run (moments ∷ more) is_paid is =
      let one = makes_sweep _ run moments tt is_paid is.1 in
      both_sweep run moments (all_of more) one
      (applies_sweep r d l (after_all setup run moments) more one.paid is.2)

  abbrev IsCalmTrial : Trial → Type 0
  IsCalmTrial (step event) = IsCalm event
  IsCalmTrial (reading r d) = ⊤
  IsCalmTrial (applying r d l) = ⊤

  abbrev AreCalm : List Trial → Type 0
  AreCalm [] = ⊤
  AreCalm (trial ∷ trials) = IsCalmTrial trial × AreCalm trials

  reading_calm : (read_out : Bool) (r d : ShardId) → IsCalm (cond read_out (Fetch r d) (Clone r d))
  reading_calm true r d = tt
  reading_calm false r d = tt

  trial_sweeps : (run : Run) (trial : Trial) (moments : List Moment) → IsCalmTrial trial → IsPaid run
      → Tries setup run trial moments → Sweeping run moments
  trial_sweeps run (step event) moments calm is_paid is = makes_sweep event run moments calm is_paid is
  trial_sweeps run (reading r d) moments calm is_paid is =
      makes_sweep (next_reading setup run.cluster r d) run moments (reading_calm (link_in run.cluster r.0 d.0).link.read_out r d) is_paid is
  trial_sweeps run (applying r d l) moments calm is_paid is =
      subst (λ (ms : List Moment). Sweeping run ms) (sym is.1) (applies_sweep r d l run is.0 is_paid is.2)

  trials_sweep : (run : Run) (trials : List Trial) (moments : List Moment) → AreCalm trials → IsPaid run
      → TriesAll setup run trials moments → Sweeping run moments
  trials_sweep run [] moments calm is_paid is = subst (λ (ms : List Moment). Sweeping run ms) (sym is) (none_sweeps run is_paid)
  trials_sweep run (trial ∷ trials) moments calm is_paid is =
      let one = trial_sweeps run trial is.0 calm.0 is_paid is.3 in
      subst (λ (ms : List Moment). Sweeping run ms) (sym is.2)
      (both_sweep run is.0 is.1 one (trials_sweep (after_all setup run is.0) trials is.1 calm.1 one.paid is.4))

  calm_both : (xs ys : List Trial) → AreCalm xs → AreCalm ys → AreCalm (xs ++ ys)
  calm_both [] ys a b = b
  calm_both (x ∷ xs) ys a b = (a.0, calm_both xs ys a.1 b)

  calm_each : (f : ℕ → List Trial) (from many : ℕ) → ((k : ℕ) → AreCalm (f k)) → AreCalm (flat_map f (range_with_len from many))
  calm_each f from zero all = tt
  calm_each f from (suc many) all = calm_both (f from) _ (all from) (calm_each f (from + 1) many all)

  link_calm : (r d : ShardId) → AreCalm (link_round setup r d)
  link_calm r d = (
    tt,
    (
      tt,
      calm_both (flat_map (λ l. applying r d l ∷ []) (range_with_len 0 setup.lanes)) (step (Record r d) ∷ [])
          (calm_each (λ l. applying r d l ∷ []) 0 setup.lanes (λ l. (tt, tt))) (tt, tt),
    ),
  )

  abbrev client_trials : List Trial
  client_trials = flat_map (λ c. step (Client c) ∷ []) (range_with_len 0 (length setup.clients))

  abbrev tell_trials : List Trial
  tell_trials = flat_map (λ s. step (Tell (shard_id s)) ∷ []) (range_with_len 0 (length setup.shards))

  abbrev links_of_one : ℕ → List Trial
  links_of_one r = flat_map (λ d. link_round setup (shard_id r) (shard_id d)) (range_with_len 0 (length setup.shards))

  abbrev link_trials : List Trial
  link_trials = flat_map links_of_one (range_with_len 0 (length setup.shards))

  abbrev report_trials : List Trial
  report_trials = flat_map (λ s. step (Report (shard_id s)) ∷ []) (range_with_len 0 (length setup.shards))

  abbrev last_trials : List Trial
  last_trials = step Advance ∷ []

  links_calm : AreCalm link_trials
  links_calm = calm_each links_of_one 0 (length setup.shards)
      (λ r. calm_each (λ d. link_round setup (shard_id r) (shard_id d)) 0 (length setup.shards)
      (λ d. link_calm (shard_id r) (shard_id d)))

  abbrev first_trials : List Trial
  first_trials = client_trials ++ (step Begin ∷ tell_trials)

  first_calm : AreCalm first_trials
  first_calm =
      calm_both client_trials (step Begin ∷ tell_trials)
      (calm_each (λ c. step (Client c) ∷ []) 0 (length setup.clients) (λ c. (tt, tt)))
      (tt, calm_each (λ s. step (Tell (shard_id s)) ∷ []) 0 (length setup.shards) (λ s. (tt, tt)))

  round_calm : AreCalm (round setup)
  round_calm =
      calm_both ((first_trials ++ link_trials) ++ report_trials) last_trials
      (calm_both (first_trials ++ link_trials) report_trials (calm_both first_trials link_trials first_calm links_calm)
      (calm_each (λ s. step (Report (shard_id s)) ∷ []) 0 (length setup.shards) (λ s. (tt, tt)))) (tt, tt)

  rounds_sweep : (run : Run) (rounds : List (List Moment)) → IsPaid run → IsSweep setup run rounds → Sweeping run (all_of rounds)
  rounds_sweep run [] is_paid is = none_sweeps run is_paid
  rounds_sweep run (moments ∷ more) is_paid is =
      let one = trials_sweep run (round setup) moments round_calm is_paid is.1 in
      both_sweep run moments (all_of more) one (rounds_sweep (after_all setup run moments) more one.paid is.2)

  sweep_sweeps : (run : Run) (moments : List Moment) → IsPaid run → Sweeps setup run moments → Sweeping run moments
  sweep_sweeps run moments is_paid is =
      subst (λ (ms : List Moment). Sweeping run ms) (sym is.1) (rounds_sweep run is.0 is_paid is.2)

  -- how many steps of a list crash a link
  abbrev crashes_of : List Event → Free
  crashes_of events who = length (filter (is_crash_of who) events)

  tests_alike : (who : Who) (r d : ShardId) → is_crash_of who (Crash r d) ≡ same_who who (Link r d)
  tests_alike Coordinator r d = refl
  tests_alike (Link s e) r d = refl
  tests_alike (Lane s e l) r d = refl

  paid_for : (b : Bool) (n f : ℕ) → one b + n ≤ f → n ≤ cond b (f - 1) f
  paid_for true n f le = omega arith
  paid_for false n f le = omega arith

  one_true : (b : Bool) → b ≡ true → 1 ≤ one b
  one_true true e = omega arith
  one_true false e = cc

  step_may : (free : Free) (event : Event) (events : List Event) → ((who : Who) → crashes_of (event ∷ events) who ≤ free who)
      → MayCrash free event None
  step_may free (Crash r d) events enough =
      let all = enough (Link r d) in
      let more = count_more (is_crash_of (Link r d)) (Crash r d) events in
      let here = one_true _ (both_itself r.0 d.0) in
      omega arith
  step_may free other events enough = tt

  step_left : (free : Free) (event : Event) (events : List Event) → ((who : Who) → crashes_of (event ∷ events) who ≤ free who)
      → (who : Who) → crashes_of events who ≤ free_after free event None who
  step_left free (Crash r d) events enough who =
      let all = enough who in
      let more = count_more (is_crash_of who) (Crash r d) events in
      let same = ap one (tests_alike who r d) in
      paid_for (same_who who (Link r d)) (crashes_of events who) (free who) (omega arith)
  step_left free other events enough who =
      let all = enough who in
      let more = count_more (is_crash_of who) other events in
      omega arith

  record Stepping (free : Free) (run : Run) (moments : List Moment) : Type 0 where
    pub schedule : IsSchedule setup run moments
    pub paid : IsPaid (after_all setup run moments)
    pub keeps : (more : List Moment) → ((f : Free) → KeepsPlan setup f (after_all setup run moments) more)
        → KeepsPlan setup free run (moments ++ more)

  all_step : (free : Free) (run : Run) (events : List Event) (moments : List Moment) → IsPaid run
      → ((who : Who) → crashes_of events who ≤ free who) → MakeAll setup run events moments → Stepping free run moments
  unfolding after_all
  all_step free run [] moments is_paid enough is =
      subst (λ (ms : List Moment). Stepping free run ms) (sym is)
      (record { schedule = tt; paid = is_paid; keeps = λ more keeps. keeps free })
  all_step free run (event ∷ events) moments is_paid enough is =
      let one = step_goes event run is.0 is.3.0 is_paid is.3.1 in
      let rest = all_step (free_after free event None) (after_all setup run is.0) events is.1 one.paid
      (step_left free event events enough) is.4 in
      subst (λ (ms : List Moment). Stepping free run ms) (sym is.2)
      (record {
        schedule = schedule_both run is.0 is.1 one.schedule rest.schedule;
        paid = subst IsPaid (after_both run is.0 is.1) rest.paid;
        keeps = λ more keeps.
            subst (λ (ms : List Moment). KeepsPlan setup free run ms) (sym (append_assoc is.0 is.1 more))
            (one.keeps free (is.1 ++ more) (step_may free event events enough)
            (rest.keeps more (λ f. subst (λ (r : Run). KeepsPlan setup f r more) (sym (after_both run is.0 is.1)) (keeps f))));
      })

pub steps_keep_plans : StepsKeepPlans
steps_keep_plans setup free run event moments is_paid has_free is =
    keep_of setup free event run moments has_free (step_goes setup event run moments is.0 is_paid is.1)

pub sweeps_keep_plans : SweepsKeepPlans
sweeps_keep_plans setup free run moments is_paid is =
    let sweeps = sweep_sweeps setup run moments is_paid is in
    record {
      schedule = sweeps.schedule;
      keeps = subst (λ (ms : List Moment). KeepsPlan setup free run ms) (to_nothing setup moments) (sweeps.keeps free [] tt);
      paid = sweeps.paid;
    }

at_most : (n : ℕ) → n ≤ n
at_most n = omega arith

pub files_keep_plans : FilesKeepPlans
files_keep_plans setup steps swept made sweeps =
    let stepping = all_step setup (crash_steps setup) (opening_run setup) setup.steps steps refl
    (λ who. at_most (crash_steps setup who)) made in
    let sweeping = sweep_sweeps setup (after_all setup (opening_run setup) steps) swept stepping.paid sweeps in
    record {
      moments = steps ++ swept;
      made = refl;
      schedule = schedule_both setup (opening_run setup) steps swept stepping.schedule sweeping.schedule;
      keeps = stepping.keeps swept (λ f. subst (λ (ms : List Moment). KeepsPlan setup f (after_all setup (opening_run setup) steps) ms)
          (to_nothing setup swept) (sweeping.keeps f [] tt));
      ends = refl;
    }

pub files_are_licensed : FilesAreLicensed
files_are_licensed setup steps swept end made sweeps e =
    ends_are_licensed setup (crash_steps setup) (trace_of (steps ++ swept)) (after_all setup (opening_run setup) (steps ++ swept)) end
    (files_keep_plans setup steps swept made sweeps) e
