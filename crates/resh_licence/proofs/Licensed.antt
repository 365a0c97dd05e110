-- In a schedule that keeps the plan a failure is licensed.
use Rattle.std.proofs.Common.{◌≡◌, ◌⊎◌, inl, inr, ℕ, ◌+◌, ◌-◌, Bool, true, false, ◌&&◌, cond, List, [], ◌∷◌, find, Option, Some, None, refl, sym, ap, ◌∙◌, subst, arith}
use Rattle.std.specs.List.{Contains}
use Rattle.std.specs.Option.{option_map_or}
use Rattle.resh_luck.specs.Fates as luck
use Rattle.resh_luck.specs.Fates.{Told, loses, next_fate}
use Rattle.resh_luck.specs.declared.fate.Fate.{Fate}
use Rattle.resh_luck.specs.declared.fate.Fate.TheVariants as fate
use Rattle.resh_luck.specs.declared.row.Kind.TheVariants.{Commit, Deliver}
use Rattle.resh_luck.specs.declared.row.PlanFate.{PlanFate}
use Rattle.resh_luck.specs.declared.row.PlanFate.TheVariants as plan
use Rattle.resh_luck.specs.declared.row.PlanRow.{PlanRow}
use Rattle.resh_coord.specs.declared.cause.Cause.TheVariants as cause
use Rattle.resh_coord.specs.declared.cause.End.{End}
use Rattle.resh_coord.specs.declared.cause.End.TheVariants.{Committed, Aborted}
use Rattle.resh_setup.specs.declared.plan.Planned.{Planned}
use Rattle.resh_setup.specs.declared.plan.Who.{Who}
use Rattle.resh_setup.specs.declared.plan.Who.TheVariants.{Coordinator, Link}
use Rattle.resh_setup.specs.declared.setup.Setup.{Setup}
use Rattle.resh_setup.specs.declared.trace.Made.{Made}
use Rattle.resh_setup.specs.declared.trace.Met.{Met}
use Rattle.resh_setup.specs.declared.trace.Met.TheVariants.{Failed, Lost, NoMemory, NoMemoryInMove}
use Rattle.resh_model.specs.Licence as model
use Rattle.resh_model.specs.Licence.{FailsToCommit, HasLicence, IsLicensed, LosesLink, has_step, is_of, same_who}
use Rattle.resh_cells.specs.Cells.{link_in}
use Rattle.resh_cells.specs.declared.cluster.LinkCell.{LinkCell}
use Rattle.resh_events.specs.Follows.{limit, node_of}
use Rattle.resh_events.specs.Lucks.{rows_of, told_of}
use Rattle.resh_events.specs.Luck.{Asks}
use Rattle.resh_events.specs.Opening.{opening}
use Rattle.resh_events.specs.Plans.{Answers, Free, IsWant, KeepsPlan, free_after, given_by, met_of, tried}
use Rattle.resh_events.specs.Runs.{Moment, Run, after, after_all, asked_by, cluster_after, opening_run}
use Rattle.resh_events.specs.Schedules.{IsSchedule, Stands, trace_of}
use Rattle.resh_licence.specs.Causes.{HasWanted}
use Rattle.resh_licence.specs.Keeping.{IsPlannedTrace}
use Rattle.resh_licence.specs.Laws.{EndsAreLicensed, LinksAreLicensed}
use Rattle.resh_licence.proofs.Calling.{planned_told, reads_alike}
use Rattle.resh_licence.proofs.Controls.{FitEnd}
use Rattle.resh_licence.proofs.Fated.{fail_known, fails, lost_known}
use Rattle.resh_licence.proofs.Fitting.{Sound, sound_after}
use Rattle.resh_licence.proofs.Happening.{head_there, opens_link, opens_sound, tail_there, whose}
use Rattle.resh_licence.proofs.Licensing.{Known, by_plan, known_after}
use Rattle.resh_licence.proofs.Numbers.{itself, node_has, node_same, same_number}
use Rattle.resh_licence.proofs.Reasons.{Reasons, follower_fits}
use Rattle.resh_licence.proofs.Shapes.{opens_shaped}

-- what is found stands in the list and passes
found : {X : Type 0} (test : X → Bool) (xs : List X) (x : X) → find test xs ≡ Some x → Contains xs x × (test x ≡ true)
found test [] x e = cc
found test (y ∷ ys) x e = by (test y) refl (found test ys x) e
  where
    by : (b : Bool) → test y ≡ b → (find test ys ≡ Some x → Contains ys x × (test x ≡ true))
        → cond b (Some y) (find test ys) ≡ Some x → Contains (y ∷ ys) x × (test x ≡ true)
    by true is more e =
        let same : y ≡ x = cc in
        (subst (λ z. Contains (y ∷ ys) z) same (head_there y ys), subst (λ z. test z ≡ true) same is)
    by false is more e = let there = more e in (tail_there y x ys there.0, there.1)

fate_of : (found : Option Planned) (f : PlanFate) → option_map_or (λ (p : Planned). Some p.row.fate) found None ≡ Some f
    → (p : Planned) × (found ≡ Some p) × (p.row.fate ≡ f)
fate_of None f e = cc
fate_of (Some p) f e = (p, refl, (let same : p.row.fate ≡ f = cc in same))

first_of_four : (a b c d : Bool) → (a && b && c && d) ≡ true → a ≡ true
first_of_four true b c d e = refl
first_of_four false b c d e = cc

-- a row of the plan fails a commit of the activity's node
row_fails : (rows : List Planned) (who : Who) (number : ℕ) → model.met rows who Commit number ≡ Some plan.Failed
    → FailsToCommit rows (node_of who)
row_fails rows who number e =
    let row = fate_of (find (has_step who Commit number) rows) plan.Failed e in
    let is = found (has_step who Commit number) rows row.0 row.1 in
    record {
      planned = row.0;
      there = is.0;
      of_node = node_same who row.0.who (first_of_four _ _ _ _ is.1);
      fails = row.2;
    }

failed_fate : (f : Fate) → Failed ≡ met_of f → fails f ≡ true
failed_fate fate.Kept e = cc
failed_fate fate.CrashedBefore e = cc
failed_fate fate.CrashedAfter e = cc
failed_fate fate.Failed e = refl

no_want : (met : Met) → (met ≡ NoMemory → ⊥) → (met ≡ NoMemoryInMove → ⊥) → IsWant met → ⊥
no_want met a b (inl e) = a e
no_want met a b (inr e) = b e

fail_met : (t : Told) (met : Met) → met ≡ Failed → (met ≡ met_of (next_fate t)) ⊎ IsWant met → fails (next_fate t) ≡ true
fail_met t met is (inl e) = failed_fate (next_fate t) (sym is ∙ e)
fail_met t met is (inr w) = absurd (no_want met (λ e. one (sym is ∙ e)) (λ e. two (sym is ∙ e)) w)
  where
    one : Failed ≡ NoMemory → ⊥
    one e = cc

    two : Failed ≡ NoMemoryInMove → ⊥
    two e = cc

tried_lost : (b : Bool) → Lost ≡ tried b → b ≡ true
tried_lost true e = refl
tried_lost false e = cc

lost_met : (b : Bool) (met : Met) → met ≡ Lost → (met ≡ tried b) ⊎ IsWant met → b ≡ true
lost_met b met is (inl e) = tried_lost b (sym is ∙ e)
lost_met b met is (inr w) = absurd (no_want met (λ e. one (sym is ∙ e)) (λ e. two (sym is ∙ e)) w)
  where
    one : Lost ≡ NoMemory → ⊥
    one e = cc

    two : Lost ≡ NoMemoryInMove → ⊥
    two e = cc

module _ (setup : Setup) (free : Free) where
  fails_commit : (t : Told) (who : Who) (met : Met) → t.rows ≡ rows_of setup who → met ≡ Failed
      → (met ≡ met_of (next_fate t)) ⊎ IsWant met → FailsToCommit setup.plan (node_of who)
  fails_commit t who met rows is answers =
      row_fails setup.plan who (t.commits + 1)
      (sym (reads_alike setup.plan who Commit (t.commits + 1))
      ∙ subst (λ (l : List PlanRow). luck.met l Commit (t.commits + 1) ≡ Some plan.Failed) rows
      (fail_known t (fail_met t met is answers)))

  loses_link : (t : Told) (who : Who) (met : Met) → t.rows ≡ rows_of setup who → met ≡ Lost
      → (met ≡ tried (loses limit t)) ⊎ IsWant met → LosesLink setup.plan (node_of who)
  loses_link t who met rows is answers = record {
    who = who;
    of_node = node_has who;
    first = t.deliveries + 1;
    lost = λ number low high.
        let k = lost_known limit t (lost_met (loses limit t) met is answers) (number - (t.deliveries + 1)) (omega arith) in
        let same : t.deliveries + 1 + (number - (t.deliveries + 1)) ≡ number = omega arith in
        sym (reads_alike setup.plan who Deliver number)
        ∙ subst (λ (l : List PlanRow). luck.met l Deliver number ≡ Some plan.Lost) rows
        (subst (λ (i : ℕ). luck.met t.rows Deliver i ≡ Some plan.Lost) same k);
  }

  reasons : (whole : List Made) (now : Free) (run : Run) (m : Moment) → Contains whole m.made → Stands setup run m
      → Answers setup run m → Known setup free now run → Known setup free (free_after now m.made.event m.given.place) (after setup run m)
      → Reasons (IsLicensed setup.plan free) (HasWanted whole) (cluster_after setup run m) m.made.event (asked_by run m) m.made.met
  unfolding after
  reasons whole now run m there stands answers known next = record {
    commit = λ who e q. fails_commit (told_of setup run.lucks who) who m.made.met
        (by_plan setup free now run m who known stands (ap whose e)) q
        (subst (λ (a : Asks). (m.made.met ≡ given_by setup run.lucks a) ⊎ IsWant m.made.met) e answers);
    losses = λ who e q. loses_link (told_of setup run.lucks who) who m.made.met
        (by_plan setup free now run m who known stands (ap whose e)) q
        (subst (λ (a : Asks). (m.made.met ≡ given_by setup run.lucks a) ⊎ IsWant m.made.met) e answers);
    link = λ r d e t. record {
      who = Link r d;
      of_node = itself r.0;
      commits = next.crashing (Link r d);
      apart = next.apart (Link r d);
      crash = next.known (Link r d);
      enough = let most = next.links r d in let many = same_number _ limit t in omega arith;
    };
    control = λ e crash t. record {
      who = Coordinator;
      of_node = refl;
      commits = next.crashing Coordinator;
      apart = next.apart Coordinator;
      crash = next.known Coordinator;
      enough = let most = next.control in let many = same_number _ limit t in omega arith;
    };
    wants = λ r d q e. record { made = m.made; there = there; of_link = e; meets = q };
  }

  from_run : (whole : List Made) (now : Free) (run : Run) (ms : List Moment)
      → ((made : Made) → Contains (trace_of ms) made → Contains whole made) → IsSchedule setup run ms → KeepsPlan setup now run ms
      → Sound (IsLicensed setup.plan free) (HasWanted whole) run → Known setup free now run
      → Sound (IsLicensed setup.plan free) (HasWanted whole) (after_all setup run ms)
  unfolding after_all
  from_run whole now run [] there schedule keeps sound known = sound
  from_run whole now run (m ∷ ms) there schedule keeps sound known =
      let next = known_after setup free now run m schedule.0 keeps.0 keeps.1 known in
      from_run whole (free_after now m.made.event m.given.place) (after setup run m) ms
      (λ made c. there made (tail_there m.made made (trace_of ms) c)) schedule.1 keeps.2
      (sound_after (IsLicensed setup.plan free) (HasWanted whole) setup run m schedule.0
      (follower_fits (IsLicensed setup.plan free) (HasWanted whole) (cluster_after setup run m) m.made.event (asked_by run m) m.made.met
      (reasons whole now run m (there m.made (head_there m.made (trace_of ms))) schedule.0 keeps.0 known next)) sound)
      next

  opens_known : Known setup free free (opening_run setup)
  opens_known = record {
    shaped = opens_shaped setup;
    rows = λ who there. ap (λ (t : Told). t.rows) (planned_told setup who there);
    crashing = λ who. [];
    known = λ who k d h. absurd (omega arith);
    past = λ who k d h. absurd (omega arith);
    apart = λ who i j d h e. absurd (omega arith);
    links = λ r d.
        let none : (link_in (opening setup) r.0 d.0).link.crashes ≡ 0
        = opens_link setup (λ (cell : LinkCell). cell.link.crashes ≡ 0) refl (λ i j. refl) r.0 d.0 in
        omega arith;
    control = omega arith;
  }

  all_sound : (trace : List Made) (last : Run) → IsPlannedTrace setup free trace last
      → Sound (IsLicensed setup.plan free) (HasWanted trace) last
  all_sound trace last is =
      subst (λ (t : List Made). Sound (IsLicensed setup.plan free) (HasWanted t) last) (sym is.made)
      (subst (λ (run : Run). Sound (IsLicensed setup.plan free) (HasWanted (trace_of is.moments)) run) (sym is.ends)
      (from_run (trace_of is.moments) free (opening_run setup) is.moments (λ made c. c) is.schedule is.keeps
      (opens_sound (IsLicensed setup.plan free) (HasWanted (trace_of is.moments)) setup) opens_known))

  licence_of : (end : End) → FitEnd (IsLicensed setup.plan free) (Some end) → HasLicence setup.plan free end
  licence_of Committed fits = tt
  licence_of (Aborted (cause.Clash shard id)) fits = tt
  licence_of (Aborted (cause.Asked client number)) fits = tt
  licence_of (Aborted (cause.Failed n w)) fits = fits
  licence_of (Aborted cause.NoMemory) fits = tt

pub ends_are_licensed : EndsAreLicensed
ends_are_licensed setup free trace last end is e =
    licence_of setup free end
    (subst (λ (d : Option End). FitEnd (IsLicensed setup.plan free) d) e (all_sound setup free trace last is).decided)

pub links_are_licensed : LinksAreLicensed
links_are_licensed setup free trace last r d is h = (all_sound setup free trace last is).failed r d h
