-- Events that were made one after another, put together to a step.
use Rattle.std.proofs.Common.{◌≡◌, ◌<◌, ℕ, true, false, List, [], ◌∷◌, ◌++◌, Option, Some, None, refl, sym, ◌∙◌, ap, subst, append_assoc}
use Rattle.resh_oplog.specs.declared.piece.Piece.{Piece}
use Rattle.resh_stamp.specs.Times.{end_of_time}
use Rattle.resh_stamp.specs.declared.stamp.Stamp.{Stamp}
use Rattle.resh_setup.specs.declared.event.Event.{Event}
use Rattle.resh_setup.specs.declared.event.Event.TheVariants.{Client, Begin, Tell, Retell, Advance, Clone, Fetch, Cut, Apply, Again, Record, Crash, Report, Fail}
use Rattle.resh_setup.specs.declared.seen.Seen.{Seen}
use Rattle.resh_setup.specs.declared.seen.Seen.TheVariants.{Idle}
use Rattle.resh_setup.specs.declared.setup.Setup.{Setup}
use Rattle.resh_setup.specs.declared.trace.Met.{Met}
use Rattle.resh_setup.specs.declared.trace.Met.TheVariants.{Row}
use Rattle.resh_cells.specs.Clocks.{with_clocks}
use Rattle.resh_cells.specs.declared.cluster.Cluster.{Cluster}
use Rattle.resh_events.specs.Follows.{follows}
use Rattle.resh_events.specs.Luck.{acts, change, holds}
use Rattle.resh_events.specs.Lucks.{Lucks}
use Rattle.resh_events.specs.Runs.{Moment, Run, after, after_all, cluster_after, owes, seen_of, stamp_of}
use Rattle.resh_events.specs.Plans.{Answers}
use Rattle.resh_events.specs.Schedules.{Delivers, IsSchedule, Stands, is_failure, trace_of}
use Rattle.resh_events.specs.Steps.{Line, first_moment, idles, lines_of, makes, may_step, moments_of, owed_moment, paid, piece_for}
use Rattle.resh_events.specs.Table.{may}
use Rattle.resh_events.specs.Turns.{order_of, turns_of}
use Rattle.resh_cells.specs.Belonging.{IsClusterOf}
use Rattle.resh_core.specs.Cores.{CoreOf, HasStepped, run_of}
use Rattle.resh_core.specs.Making.{IsMade, IsPaid, asked, core_of, may_follow, stamp_at}
use Rattle.resh_core.specs.declared.making.Acted.{Acted}
use Rattle.resh_core.specs.declared.making.State.{State}
use Rattle.resh_core.proofs.ListLaws.{append_none}
use Rattle.resh_core.proofs.DeliveryLaws.{piece_delivered}

-- one event was made of a core, from one run to the next
pub record Goes (setup : Setup) (old : CoreOf) (run : Run) (m : Moment) (s : Seen) (new : CoreOf) (next : Run) : Type 0 where
  pub stands : Stands setup run m
  pub setup_is : new.setup ≡ old.setup
  pub trace : new.trace ≡ old.trace ++ m.made ∷ []
  pub order : new.order ≡ old.order ++ turns_of setup run m
  pub ends : after setup run m ≡ next
  pub shows : s ≡ seen_of setup run m

-- some events were made of a core from a run on, and nothing is owed behind them
pub record Leads (setup : Setup) (old : CoreOf) (run : Run) (moments : List Moment) (lines : List Line) (new : CoreOf) (later : Lucks)
    : Type 0 where
  pub schedule : IsSchedule setup run moments
  pub setup_is : new.setup ≡ old.setup
  pub trace : new.trace ≡ old.trace ++ trace_of moments
  pub order : new.order ≡ old.order ++ order_of setup run moments
  pub ends : run_of new later ≡ after_all setup run moments
  pub shows : lines ≡ lines_of setup run moments

pub leads_none : (setup : Setup) (core : CoreOf) (lucks : Lucks) → Leads setup core (run_of core lucks) [] [] core lucks
unfolding order_of after_all
leads_none setup core lucks = record {
  schedule = _;
  setup_is = refl;
  trace = sym (append_none core.trace);
  order = sym (append_none core.order);
  ends = refl;
  shows = refl;
}

pub leads_more : (setup : Setup) (old : CoreOf) (run : Run) (m : Moment) (s : Seen) (mid : CoreOf) (next : Run)
    (moments : List Moment) (lines : List Line) (new : CoreOf) (later : Lucks)
    → Goes setup old run m s mid next → Leads setup mid next moments lines new later
    → Leads setup old run (m ∷ moments) ((m.made.event, s) ∷ lines) new later
unfolding order_of after_all
leads_more setup old run m s mid next moments lines new later g h = record {
  schedule = (g.stands, subst (λ (r : Run). IsSchedule setup r moments) (sym g.ends) h.schedule);
  setup_is = h.setup_is ∙ g.setup_is;
  trace = h.trace ∙ ap (λ t. t ++ trace_of moments) g.trace ∙ append_assoc old.trace (m.made ∷ []) (trace_of moments);
  order = h.order ∙ ap (λ t. t ++ order_of setup next moments) g.order
      ∙ append_assoc old.order (turns_of setup run m) (order_of setup next moments)
      ∙ ap (λ (r : Run). old.order ++ (turns_of setup run m ++ order_of setup r moments)) (sym g.ends);
  ends = h.ends ∙ ap (λ (r : Run). after_all setup r moments) (sym g.ends);
  shows = ap (λ (l : List Line). (m.made.event, s) ∷ l) (h.shows ∙ ap (λ (r : Run). lines_of setup r moments) (sym g.ends))
      ∙ ap (λ (t : Seen). (m.made.event, t) ∷ lines_of setup (after setup run m) moments) g.shows;
}

-- what leads on from a step's first event, with all that is owed behind it, is the step
pub stepped : (setup : Setup) (old new : State) (before later : Lucks) (e : Event) (met : Met) (moments : List Moment)
    (lines : List Line) → may_step setup old.cluster e ≡ true
    → Answers setup (run_of (core_of setup old) before) (first_moment setup (run_of (core_of setup old) before) e met)
    → moments ≡ moments_of setup (run_of (core_of setup old) before) e met
    → Leads setup (core_of setup old) (run_of (core_of setup old) before) moments lines (core_of setup new) later
    → HasStepped (core_of setup old) before e lines (core_of setup new) later
stepped setup old new before later e met moments lines h a m l = record {
  moments = moments;
  step = makes met h a m l.schedule l.shows;
  made = record { setup = refl; trace = l.trace; order = l.order; run = l.ends };
}

pub idled : (setup : Setup) (state : State) (lucks : Lucks) (e : Event) (lines : List Line)
    → may_step setup state.cluster e ≡ false → lines ≡ (e, Idle) ∷ []
    → HasStepped (core_of setup state) lucks e lines (core_of setup state) lucks
unfolding order_of after_all
idled setup state lucks e lines h q = record {
  moments = [];
  step = idles h refl q;
  made = record { setup = refl; trace = sym (append_none state.trace); order = sym (append_none state.order); run = refl };
}

-- the run behind an event
abbrev pub behind : State → Lucks → ℕ → Option Event → Run
behind state lucks time follower = record { cluster = state.cluster; owed = owes time follower; lucks = lucks }

-- runs of the same parts
same_run : (c d : Cluster) (t u : ℕ) (f g : Option Event) (l m : Lucks) → c ≡ d → t ≡ u → f ≡ g → l ≡ m
    → (let run : Run = record { cluster = d; owed = owes u g; lucks = m } in run)
    ≡ record { cluster = c; owed = owes t f; lucks = l }
same_run c d t u f g l m hc ht hf hl = cc (hc, ht, hf, hl)

-- the first event of a step
pub first_goes : (setup : Setup) (old new : State) (before later : Lucks) (e : Event) (a : Acted)
    → may_step setup old.cluster e ≡ true → is_failure e ≡ false → IsMade setup old before e 0 new later a
    → Goes setup (core_of setup old) (run_of (core_of setup old) before)
    (first_moment setup (run_of (core_of setup old) before) e a.met) a.seen (core_of setup new)
    (behind new later a.stamp.time a.follower)
unfolding after
first_goes setup old new before later e a h f made =
    let t : a.stamp ≡ stamp_at setup old.cluster e a.met 0 = made.acted.stamp in
    let c : new.cluster ≡ cluster_after setup (run_of (core_of setup old) before) (first_moment setup (run_of (core_of setup old) before) e a.met) =
    made.acted.cluster ∙ ap (λ (s : Stamp). with_clocks s.time (holds setup old.cluster e a.met)
    (change setup s old.cluster e (piece_for old.cluster e) a.met)) t in
    record {
      stands = record {
        may = h;
        meets = made.acted.meets;
        delivers = piece_delivered setup old.cluster e h;
        follows = f;
        stamp = refl;
        in_time = subst (λ (s : Stamp). s.time < end_of_time) t made.acted.in_time;
        bounded = made.acted.bounded;
      };
      setup_is = refl;
      trace = cc (t, made.kept.trace);
      order = cc made.kept.order;
      ends = same_run new.cluster _ a.stamp.time _ a.follower _ later _ c (ap (λ (s : Stamp). s.time) t)
          (made.acted.follower ∙ ap (λ (x : Cluster). follows x e (asked old.cluster e) a.met) c) made.lucks;
      shows = cc (t, made.acted.seen);
    }

follower_none : (cluster : Cluster) (e : Event) → may_follow e ≡ true → piece_for cluster e ≡ None
follower_none cluster (Client c) h = refl
follower_none cluster Begin h = refl
follower_none cluster (Tell s) h = refl
follower_none cluster (Retell s m) h = refl
follower_none cluster Advance h = refl
follower_none cluster (Clone r d) h = refl
follower_none cluster (Fetch r d) h = refl
follower_none cluster (Cut r d) h = refl
follower_none cluster (Apply r d l) h = cc
follower_none cluster (Again r d l n) h = cc
follower_none cluster (Record r d) h = refl
follower_none cluster (Crash r d) h = refl
follower_none cluster (Report r) h = refl
follower_none cluster (Fail link cause) h = refl

follower_delivers : (cluster : Cluster) (e : Event) → may_follow e ≡ true → Delivers cluster e None
follower_delivers cluster (Client c) h = refl
follower_delivers cluster Begin h = refl
follower_delivers cluster (Tell s) h = refl
follower_delivers cluster (Retell s m) h = refl
follower_delivers cluster Advance h = refl
follower_delivers cluster (Clone r d) h = refl
follower_delivers cluster (Fetch r d) h = refl
follower_delivers cluster (Cut r d) h = refl
follower_delivers cluster (Apply r d l) h = cc
follower_delivers cluster (Again r d l n) h = cc
follower_delivers cluster (Record r d) h = refl
follower_delivers cluster (Crash r d) h = refl
follower_delivers cluster (Report r) h = refl
follower_delivers cluster (Fail link cause) h = refl

-- an event that is owed, as it was made
pub paid_goes : (setup : Setup) (old new : State) (before later : Lucks) (e : Event) (time : ℕ) (a : Acted)
    → IsPaid setup old before e time new later a
    → Goes setup (core_of setup old) (behind old before time (Some e))
    (owed_moment setup (behind old before time (Some e)) (record { event = e; time = time })) a.seen (core_of setup new)
    (behind new later a.stamp.time a.follower)
unfolding after
paid_goes setup old new before later e time a paid =
    let made = paid.made in
    let t : a.stamp ≡ stamp_at setup old.cluster e a.met time = made.acted.stamp in
    let none : piece_for old.cluster e ≡ None = follower_none old.cluster e paid.follower in
    let row : a.met ≡ Row = paid.row in
    let same : a.stamp ≡ stamp_of setup (behind old before time (Some e)) e Row (record { piece = None; place = Some 0 }) =
    cc (t, none, row) in
    record {
      stands = record {
        may = subst (λ (p : Option Piece). may setup old.cluster e p ≡ true) none paid.may;
        meets = refl;
        delivers = follower_delivers old.cluster e paid.follower;
        follows = refl;
        stamp = refl;
        in_time = subst (λ (s : Stamp). s.time < end_of_time) same made.acted.in_time;
        bounded = λ q. made.acted.bounded (ap acts row);
      };
      setup_is = refl;
      trace = cc (row, made.kept.trace);
      order = cc (none, row, made.kept.order, made.acted.cluster);
      ends = cc (t, none, row, made.acted.cluster, made.acted.follower, made.lucks);
      shows = cc (none, row, made.acted.seen);
    }

-- a step of one event
pub step_one : (setup : Setup) (old new : State) (before later : Lucks) (e : Event) (a : Acted) (lines : List Line)
    → may_step setup old.cluster e ≡ true → is_failure e ≡ false → IsMade setup old before e 0 new later a
    → a.follower ≡ None → lines ≡ (e, a.seen) ∷ []
    → HasStepped (core_of setup old) before e lines (core_of setup new) later
step_one setup old new before later e a lines h f made last q =
    let run : Run = run_of (core_of setup old) before in
    let m : Moment = first_moment setup run e a.met in
    let g : Goes setup (core_of setup old) run m a.seen (core_of setup new) (run_of (core_of setup new) later) =
    subst (λ (o : Option Event). Goes setup (core_of setup old) run m a.seen (core_of setup new) (behind new later a.stamp.time o))
    last (first_goes setup old new before later e a h f made) in
    let l : Leads setup (core_of setup old) run (m ∷ []) ((e, a.seen) ∷ []) (core_of setup new) later =
    leads_more setup _ run m a.seen _ _ [] [] _ later g (leads_none setup (core_of setup new) later) in
    let ms : m ∷ [] ≡ moments_of setup run e a.met = ap (λ (r : Run). m ∷ paid setup 2 r) (sym g.ends) in
    subst (λ (x : List Line). HasStepped (core_of setup old) before e x (core_of setup new) later) (sym q)
    (stepped setup old new before later e a.met (m ∷ []) ((e, a.seen) ∷ []) h made.acted.answers ms l)

-- a step of an event and one that follows it
pub step_two : (setup : Setup) (old mid new : State) (before between later : Lucks) (e e2 : Event) (a b : Acted) (lines : List Line)
    → may_step setup old.cluster e ≡ true → is_failure e ≡ false → IsMade setup old before e 0 mid between a
    → a.follower ≡ Some e2 → IsPaid setup mid between e2 a.stamp.time new later b → b.follower ≡ None
    → lines ≡ (e, a.seen) ∷ (e2, b.seen) ∷ []
    → HasStepped (core_of setup old) before e lines (core_of setup new) later
step_two setup old mid new before between later e e2 a b lines h f made next paid2 last q =
    let run : Run = run_of (core_of setup old) before in
    let m : Moment = first_moment setup run e a.met in
    let run2 : Run = behind mid between a.stamp.time (Some e2) in
    let m2 : Moment = owed_moment setup run2 (record { event = e2; time = a.stamp.time }) in
    let g : Goes setup (core_of setup old) run m a.seen (core_of setup mid) run2 =
    subst (λ (o : Option Event). Goes setup (core_of setup old) run m a.seen (core_of setup mid) (behind mid between a.stamp.time o))
    next (first_goes setup old mid before between e a h f made) in
    let g2 : Goes setup (core_of setup mid) run2 m2 b.seen (core_of setup new) (run_of (core_of setup new) later) =
    subst (λ (o : Option Event). Goes setup (core_of setup mid) run2 m2 b.seen (core_of setup new) (behind new later b.stamp.time o))
    last (paid_goes setup mid new between later e2 a.stamp.time b paid2) in
    let l2 : Leads setup (core_of setup mid) run2 (m2 ∷ []) ((e2, b.seen) ∷ []) (core_of setup new) later =
    leads_more setup _ run2 m2 b.seen _ _ [] [] _ later g2 (leads_none setup (core_of setup new) later) in
    let l : Leads setup (core_of setup old) run (m ∷ m2 ∷ []) ((e, a.seen) ∷ (e2, b.seen) ∷ []) (core_of setup new) later =
    leads_more setup _ run m a.seen _ run2 (m2 ∷ []) ((e2, b.seen) ∷ []) _ later g l2 in
    let ms : m ∷ m2 ∷ [] ≡ moments_of setup run e a.met =
    ap (λ (r : Run). m ∷ m2 ∷ paid setup 1 r) (sym g2.ends) ∙ ap (λ (r : Run). m ∷ paid setup 2 r) (sym g.ends) in
    subst (λ (x : List Line). HasStepped (core_of setup old) before e x (core_of setup new) later) (sym q)
    (stepped setup old new before later e a.met (m ∷ m2 ∷ []) ((e, a.seen) ∷ (e2, b.seen) ∷ []) h made.acted.answers ms l)

-- a step of an event, one that follows it, and one that follows that
pub step_three : (setup : Setup) (old mid late new : State) (before between behind2 later : Lucks) (e e2 e3 : Event) (a b d : Acted)
    (lines : List Line)
    → may_step setup old.cluster e ≡ true → is_failure e ≡ false → IsMade setup old before e 0 mid between a
    → a.follower ≡ Some e2 → IsPaid setup mid between e2 a.stamp.time late behind2 b
    → b.follower ≡ Some e3 → IsPaid setup late behind2 e3 b.stamp.time new later d → d.follower ≡ None
    → lines ≡ (e, a.seen) ∷ (e2, b.seen) ∷ (e3, d.seen) ∷ []
    → HasStepped (core_of setup old) before e lines (core_of setup new) later
step_three setup old mid late new before between behind2 later e e2 e3 a b d lines h f made next paid2 next2 paid3 last q =
    let run : Run = run_of (core_of setup old) before in
    let m : Moment = first_moment setup run e a.met in
    let run2 : Run = behind mid between a.stamp.time (Some e2) in
    let m2 : Moment = owed_moment setup run2 (record { event = e2; time = a.stamp.time }) in
    let run3 : Run = behind late behind2 b.stamp.time (Some e3) in
    let m3 : Moment = owed_moment setup run3 (record { event = e3; time = b.stamp.time }) in
    let g : Goes setup (core_of setup old) run m a.seen (core_of setup mid) run2 =
    subst (λ (o : Option Event). Goes setup (core_of setup old) run m a.seen (core_of setup mid) (behind mid between a.stamp.time o))
    next (first_goes setup old mid before between e a h f made) in
    let g2 : Goes setup (core_of setup mid) run2 m2 b.seen (core_of setup late) run3 =
    subst (λ (o : Option Event). Goes setup (core_of setup mid) run2 m2 b.seen (core_of setup late) (behind late behind2 b.stamp.time o))
    next2 (paid_goes setup mid late between behind2 e2 a.stamp.time b paid2) in
    let g3 : Goes setup (core_of setup late) run3 m3 d.seen (core_of setup new) (run_of (core_of setup new) later) =
    subst (λ (o : Option Event). Goes setup (core_of setup late) run3 m3 d.seen (core_of setup new) (behind new later d.stamp.time o))
    last (paid_goes setup late new behind2 later e3 b.stamp.time d paid3) in
    let l3 : Leads setup (core_of setup late) run3 (m3 ∷ []) ((e3, d.seen) ∷ []) (core_of setup new) later =
    leads_more setup _ run3 m3 d.seen _ _ [] [] _ later g3 (leads_none setup (core_of setup new) later) in
    let l2 : Leads setup (core_of setup mid) run2 (m2 ∷ m3 ∷ []) ((e2, b.seen) ∷ (e3, d.seen) ∷ []) (core_of setup new) later =
    leads_more setup _ run2 m2 b.seen _ run3 (m3 ∷ []) ((e3, d.seen) ∷ []) _ later g2 l3 in
    let l : Leads setup (core_of setup old) run (m ∷ m2 ∷ m3 ∷ []) ((e, a.seen) ∷ (e2, b.seen) ∷ (e3, d.seen) ∷ []) (core_of setup new) later =
    leads_more setup _ run m a.seen _ run2 (m2 ∷ m3 ∷ []) ((e2, b.seen) ∷ (e3, d.seen) ∷ []) _ later g l2 in
    let ms : m ∷ m2 ∷ m3 ∷ [] ≡ moments_of setup run e a.met =
    ap (λ (r : Run). m ∷ m2 ∷ paid setup 1 r) (sym g2.ends) ∙ ap (λ (r : Run). m ∷ paid setup 2 r) (sym g.ends) in
    subst (λ (x : List Line). HasStepped (core_of setup old) before e x (core_of setup new) later) (sym q)
    (stepped setup old new before later e a.met (m ∷ m2 ∷ m3 ∷ []) ((e, a.seen) ∷ (e2, b.seen) ∷ (e3, d.seen) ∷ []) h made.acted.answers ms l)

-- a step, by how many events it makes
pub ruleset steps = (idled, step_one, step_two, step_three)
