-- From what ran to what is said of it.
use Rattle.std.proofs.Common.{◌≡◌, ℕ, true, false, List, [], ◌∷◌, Some, None, refl, sym, ap, subst, ◌∙◌}
use Rattle.resh_coord.specs.declared.cause.End.{End}
use Rattle.resh_setup.specs.Validity.{IsValid}
use Rattle.resh_setup.specs.declared.event.Event.{Event}
use Rattle.resh_setup.specs.declared.setup.Setup.{Setup}
use Rattle.resh_setup.specs.declared.trace.Made.{Made}
use Rattle.resh_setup.specs.declared.turn.Turn.{Turn}
use Rattle.resh_model.specs.Licence.{crash_steps}
use Rattle.resh_model.specs.MarkLaws.{is_failure}
use Rattle.resh_events.specs.Lucks.{Lucks, planned}
use Rattle.resh_events.specs.Steps.{Line}
use Rattle.resh_events.specs.Sweep.{is_over}
use Rattle.resh_core.specs.Cores.{CoreOf, HasSwept, opening_core}
use Rattle.resh_gen.specs.Generated.{generated}
use Rattle.resh_law.specs.Laws.{IsWalkOf, SchedulesEnd}
use Rattle.resh_run.specs.Cluster.{HasEnded, HasSummed, HaveAllStepped, HaveStepped, IsGeneratedRun, IsPaged, IsRunOnCluster, IsSummed, lines_from}
use Rattle.resh_run.specs.Said.{IsPage}
use Rattle.resh_run.specs.Top.{IsSummaryOf, RunsTo, placed, clustered, needs_cluster, status_of}
use Rattle.resh_run.specs.declared.cluster.ClusterRun.{ClusterRun}
use Rattle.resh_run.specs.declared.cluster.Written.{Written}
use Rattle.resh_run.proofs.GeneratedSetups.{generated_valid}
use Rattle.resh_run.proofs.Licences.{run_is_licensed, run_makes_order, sweep_is_licensed, sweep_makes_order}
use Rattle.resh_run.proofs.Meant.{licensed}
use Rattle.resh_run.proofs.Pages.{without_steps}
use Rattle.resh_run.proofs.Walks.{core_walks, order_lawful, order_page, order_sum}

-- the page of a placement
pub placement : (setup : Setup) (order : List Turn) (end : End) (text : List ℕ) → needs_cluster setup ≡ false → IsPage setup order end text
    → RunsTo setup (record { meant = status_of end; order = order; end = Some end; trace = None; text = text })
placement setup order end text needs page = placed (record {
  needs = needs;
  run = record {
    ended = end;
    shown = [];
    each_step = sym (without_steps setup needs);
    lawful = page.lawful;
    licensed = licensed setup.plan (crash_steps setup) end page.well;
    end_is = refl;
    meant_is = refl;
    page_is = page.text;
  };
  well = λ ended is. let same : end ≡ ended = cc in sym (ap is_failure same) ∙ page.well;
  trace_is = refl;
  page_is = page.text;
})

-- a run on a cluster
pub clustering : (setup : Setup) (ran : ClusterRun) → needs_cluster setup ≡ true → IsValid setup → SchedulesEnd → IsRunOnCluster setup ran
    → RunsTo setup (record { meant = status_of ran.end; order = ran.order; end = Some ran.end; trace = Some ran.trace; text = ran.text.items })
clustering setup ran needs valid law is = clustered needs (record {
  shown = is.shown;
  last = is.last;
  ended = ran.end;
  run = is.run;
  ends = record { decided = is.ended.end_is; order_is = is.ended.order_is; end_is = refl; meant_is = refl };
  licensed = run_is_licensed setup is.shown is.last ran.end is.run is.ended.end_is;
  trace_is = ap Some is.ended.trace_is;
  page_is = is.ended.text_is;
  lawful = order_lawful setup is.last ran.order ran.end walk is.ended.order_is is.ended.end_is;
  page_of_order = order_page setup is.last ran.order ran.end walk is.ended.order_is is.ended.end_is (lines_from setup 1 is.shown) ran.text.items is.ended.text_is;
})
  where
    walk : IsWalkOf setup is.last.cluster is.last.order
    walk = core_walks setup is.last is.run.later valid law (run_makes_order setup is.shown is.last is.run) is.run.over

-- a generated setup's run
pub summing : (number : ℕ) (ran : ClusterRun) → SchedulesEnd → IsGeneratedRun number ran
    → IsSummaryOf number (record { meant = status_of ran.end; order = ran.order; end = Some ran.end; trace = None; text = ran.text.items })
summing number ran law is = record {
  last = is.last;
  ended = ran.end;
  run = is.run;
  ends = record { decided = is.summed.end_is; order_is = is.summed.order_is; end_is = refl; meant_is = refl };
  trace_is = refl;
  text_is = is.summed.text_is;
  lawful = order_lawful (generated number) is.last ran.order ran.end walk is.summed.order_is is.summed.end_is;
  licensed = sweep_is_licensed (generated number) is.last is.run.later ran.end is.run.swept is.summed.end_is;
  text_of_order = order_sum (generated number) is.last ran.order ran.end walk is.summed.order_is is.summed.end_is number ran.text.items is.summed.text_is;
}
  where
    walk : IsWalkOf (generated number) is.last.cluster is.last.order
    walk = core_walks (generated number) is.last is.run.later (generated_valid number) law
        (sweep_makes_order (generated number) is.last is.run.later is.run.swept) is.run.over

-- a step keeps the setup
kept : (events : List Event) (old : CoreOf) (before : Lucks) (shown : List (List Line)) (new : CoreOf) (later : Lucks) → HaveStepped events old before shown new later → new.setup ≡ old.setup
kept [] old before [] new later h = ap (λ (c : CoreOf). c.setup) h.0
kept [] old before (x ∷ xs) new later h = absurd h
kept (e ∷ es) old before [] new later h = absurd h
kept (e ∷ es) old before (x ∷ xs) new later h = kept es h.0 h.1 xs new later h.3 ∙ h.2.made.setup

-- what is written of a core, and its turns and events
paged : (setup : Setup) (texts : List (List ℕ)) (core : CoreOf) (written : Written) (trace : List Made) (order : List Turn) → trace ≡ core.trace → order ≡ core.order
    → IsPaged setup texts core written → HasEnded setup texts core (record { order = order; end = written.end; trace = trace; text = written.text })
paged setup texts core written trace order made served is = record { order_is = served; trace_is = made; end_is = is.end_is; text_is = is.text_is }

-- what was made from the opening state on
pub ran_on : (setup : Setup) (start middle last : CoreOf) (lucks told later : Lucks) (texts : List (List ℕ)) (written : Written) (trace : List Made) (order : List Turn)
    → start ≡ opening_core setup → lucks ≡ planned setup
    → HaveAllStepped setup start lucks texts middle told → HasSwept middle told last later → is_over last.setup last.cluster ≡ true → IsPaged setup texts last written
    → trace ≡ last.trace → order ≡ last.order → IsRunOnCluster setup (record { order = order; end = written.end; trace = trace; text = written.text })
ran_on setup start middle last lucks told later texts written trace order started are steps swept over is made served = record {
  shown = steps.0;
  last = last;
  run = record {
    middle = middle;
    told = told;
    later = later;
    stepped = subst (λ (c : CoreOf). HaveStepped setup.steps c (planned setup) steps.0 middle told) started
        (subst (λ (l : Lucks). HaveStepped setup.steps start l steps.0 middle told) are steps.1);
    swept = swept;
    over = subst (λ (s : Setup). is_over s last.cluster ≡ true)
        (swept.made.setup ∙ kept setup.steps start lucks steps.0 middle told steps.1 ∙ ap (λ (c : CoreOf). c.setup) started) over;
  };
  ended = subst (λ (ts : List (List ℕ)). HasEnded setup ts last (record { order = order; end = written.end; trace = trace; text = written.text })) steps.2
      (paged setup texts last written trace order made served is);
}

pub generated_on : (number : ℕ) (setup : Setup) (start last : CoreOf) (lucks later : Lucks) (written : Written) (trace : List Made) (order : List Turn)
    → setup ≡ generated number → start ≡ opening_core setup → lucks ≡ planned setup → HasSwept start lucks last later → is_over last.setup last.cluster ≡ true
    → IsSummed number setup last written → order ≡ last.order
    → IsGeneratedRun number (record { order = order; end = written.end; trace = trace; text = written.text })
generated_on number setup start last lucks later written trace order made started are swept over is served = record {
  last = last;
  run = record {
    later = later;
    swept = subst (λ (s : Setup). HasSwept (opening_core s) (planned s) last later) made
        (subst (λ (c : CoreOf). HasSwept c (planned setup) last later) started (subst (λ (l : Lucks). HasSwept start l last later) are swept));
    over = subst (λ (s : Setup). is_over s last.cluster ≡ true) (swept.made.setup ∙ ap (λ (c : CoreOf). c.setup) started ∙ made) over;
  };
  summed = subst (λ (s : Setup). HasSummed number s last (record { order = order; end = written.end; trace = trace; text = written.text })) made
      (record { order_is = served; end_is = is.end_is; text_is = is.text_is });
}
