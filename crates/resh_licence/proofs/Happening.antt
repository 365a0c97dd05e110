-- In every schedule a failure has a cause among its events.
use Rattle.std.proofs.Common.{◌≡◌, ◌≤◌, ℕ, suc, ◌+◌, Bool, true, false, ◌&&◌, cond, List, [], ◌∷◌, length, map, Option, Some, None, refl, sym, ap, ◌∙◌, subst, slice_index_or, arith}
use Rattle.std.specs.List.{Contains, range_with_len}
use Rattle.std.specs.Option.{option_map_or}
use Rattle.resh_value.specs.declared.value.ShardId.{ShardId}
use Rattle.resh_oplog.specs.declared.piece.Piece.{Piece}
use Rattle.resh_coord.specs.declared.cause.End.{End}
use Rattle.resh_coord.specs.declared.cause.Node.{Node}
use Rattle.resh_coord.specs.declared.cause.Node.TheVariants as node
use Rattle.resh_coord.specs.declared.cause.Why.{Why}
use Rattle.resh_setup.specs.declared.event.Event.{Event}
use Rattle.resh_setup.specs.declared.event.Event.TheVariants.{Begin, Advance, Record, Apply, Again, Tell, Clone, Fetch}
use Rattle.resh_setup.specs.declared.plan.Who.{Who}
use Rattle.resh_setup.specs.declared.plan.Who.TheVariants.{Coordinator, Link, Lane}
use Rattle.resh_setup.specs.declared.setup.Setup.{Setup}
use Rattle.resh_setup.specs.declared.trace.Made.{Made}
use Rattle.resh_setup.specs.declared.trace.Met.{Met}
use Rattle.resh_model.specs.Licence.{is_of}
use Rattle.resh_cells.specs.Cells.{link_in, no_link}
use Rattle.resh_cells.specs.declared.cluster.Cluster.{Cluster}
use Rattle.resh_cells.specs.declared.cluster.LinkCell.{LinkCell}
use Rattle.resh_events.specs.Follows.{limit, node_of}
use Rattle.resh_events.specs.Luck.{Asks, asks, quiet, commits, delivers}
use Rattle.resh_events.specs.Opening.{opening, opening_link}
use Rattle.resh_events.specs.Runs.{Moment, Run, after, after_all, asked_by, cluster_after, opening_run}
use Rattle.resh_events.specs.Schedules.{IsSchedule, IsTrace, trace_of}
use Rattle.resh_events.specs.rows.Again as again
use Rattle.resh_licence.specs.Causes.{HasHappened, HasWanted, activity_of, crashes_in, is_crash_in, is_crash_met, is_event_of}
use Rattle.resh_licence.specs.Laws.{EndsHaveCauses, LinksHaveCauses}
use Rattle.resh_licence.proofs.Controls.{FitEnd, event_holds, is_counted}
use Rattle.resh_licence.proofs.Fitting.{FitEvent, FitFailed, Sound, cause_fits, event_fits, sound_after}
use Rattle.resh_licence.proofs.Links.{event_moves}
use Rattle.resh_licence.proofs.Numbers.{count_more, itself, node_has, one, same_number}
use Rattle.resh_licence.proofs.Places.{each_has}
use Rattle.resh_licence.proofs.Reasons.{Reasons, follower_fits}

abbrev pub whose : Asks → Option Who
whose quiet = None
whose (commits who) = Some who
whose (delivers who) = Some who

-- who is asked is the event's activity
pub asked_is : (cluster : Cluster) (event : Event) (piece : Option Piece) (who : Who) → whose (asks cluster event piece) ≡ Some who
    → activity_of event ≡ Some who
asked_is cluster Begin piece who e = e
asked_is cluster Advance piece who e = e
asked_is cluster (Record r d) piece who e = e
asked_is cluster (Apply r d l) piece who e = e
asked_is cluster (Again r d l position) piece who e = by (again.takes cluster r.0 d.0 l piece) e
  where
    by : (t : Bool) → whose (cond t (commits (Lane r d l)) quiet) ≡ Some who → Some (Lane r d l) ≡ Some who
    by true h = h
    by false h = cc
asked_is cluster (Tell s) piece who e = e
asked_is cluster (Clone r d) piece who e = e
asked_is cluster (Fetch r d) piece who e = e
asked_is cluster other piece who e = cc

pub of_its_node : (event : Event) (who : Who) → activity_of event ≡ Some who → is_event_of (node_of who) event ≡ true
of_its_node event who e = ap (λ (a : Option Who). option_map_or (λ w. is_of (node_of who) w) a false) e ∙ node_has who

-- a crash of the coordinator that is counted is one in the trace
pub counted_crash : (cluster : Cluster) (event : Event) (piece : Option Piece) (met : Met)
    → one (is_counted (asks cluster event piece) met) ≤ one (is_event_of node.Coordinator event && is_crash_met met)
counted_crash cluster Begin piece met = omega arith
counted_crash cluster Advance piece met = omega arith
counted_crash cluster (Again r d l position) piece met = by (again.takes cluster r.0 d.0 l piece)
  where
    by : (t : Bool) → one (is_counted (cond t (commits (Lane r d l)) quiet) met) ≤ 0
    by true = omega arith
    by false = omega arith
counted_crash cluster other piece met = omega arith

pub head_there : {X : Type 0} (x : X) (xs : List X) → Contains (x ∷ xs) x
head_there x xs = (0, omega arith, refl)

pub tail_there : {X : Type 0} (x y : X) (xs : List X) → Contains xs y → Contains (x ∷ xs) y
tail_there x y xs c = (suc c.0, (let lt = c.1 in omega arith), c.2)

module _ (whole : List Made) where
  -- the crashes so far and those that come are not more than those of the whole trace
  pub record Counted (coming : List Moment) (run : Run) : Type 0 where
    pub links : (r d : ShardId) → (link_in run.cluster r.0 d.0).link.crashes + crashes_in (trace_of coming) (Link r d)
        ≤ crashes_in whole (Link r d)
    pub control : run.cluster.control.crashes + crashes_in (trace_of coming) Coordinator ≤ crashes_in whole Coordinator

  counted_after : (setup : Setup) (run : Run) (m : Moment) (ms : List Moment) (W : ShardId → ShardId → Type 0)
      → FitEvent (HasHappened whole) W m.made.event → Counted (m ∷ ms) run → Counted ms (after setup run m)
  unfolding after
  counted_after setup run m ms W fits counted = record {
    links = λ r d.
        let before = counted.links r d in
        let moved = ((event_moves setup m.made.stamp run.cluster m.made.event m.given.piece m.made.met).link r.0 d.0).crashes in
        let more = count_more (is_crash_in (Link r d)) m.made (trace_of ms) in
        omega arith;
    control =
        let before = counted.control in
        let held = (event_holds (HasHappened whole) setup m.made.stamp run.cluster m.made.event m.given.piece m.made.met
        (cause_fits (HasHappened whole) W m.made.event fits)).crashes in
        let most = counted_crash run.cluster m.made.event m.given.piece m.made.met in
        let more = count_more (is_crash_in Coordinator) m.made (trace_of ms) in
        omega arith;
  }

  reasons : (setup : Setup) (run : Run) (m : Moment) (ms : List Moment) → Contains whole m.made → Counted ms (after setup run m)
      → Reasons (HasHappened whole) (HasWanted whole) (cluster_after setup run m) m.made.event (asked_by run m) m.made.met
  unfolding after
  reasons setup run m ms there counted = record {
    commit = λ who e q. record {
      made = m.made;
      there = there;
      of_node = of_its_node m.made.event who (asked_is run.cluster m.made.event m.given.piece who (ap whose e));
      meets = q;
    };
    losses = λ who e q. record {
      made = m.made;
      there = there;
      of_node = of_its_node m.made.event who (asked_is run.cluster m.made.event m.given.piece who (ap whose e));
      meets = q;
    };
    link = λ r d e t. record {
      who = Link r d;
      of_node = itself r.0;
      enough = let most = counted.links r d in let many = same_number _ limit t in omega arith;
    };
    control = λ e crash t. record {
      who = Coordinator;
      of_node = refl;
      enough = let most = counted.control in let many = same_number _ limit t in omega arith;
    };
    wants = λ r d q e. record { made = m.made; there = there; of_link = e; meets = q };
  }

  from_run : (setup : Setup) (run : Run) (ms : List Moment)
      → ((made : Made) → Contains (trace_of ms) made → Contains whole made) → IsSchedule setup run ms
      → Sound (HasHappened whole) (HasWanted whole) run → Counted ms run
      → Sound (HasHappened whole) (HasWanted whole) (after_all setup run ms)
  unfolding after_all
  from_run setup run [] there schedule sound counted = sound
  from_run setup run (m ∷ ms) there schedule sound counted =
      let fits = event_fits (HasHappened whole) (HasWanted whole) setup run m schedule.0 sound in
      let next = counted_after setup run m ms (HasWanted whole) fits counted in
      from_run setup (after setup run m) ms (λ made c. there made (tail_there m.made made (trace_of ms) c)) schedule.1
      (sound_after (HasHappened whole) (HasWanted whole) setup run m schedule.0
      (follower_fits (HasHappened whole) (HasWanted whole) (cluster_after setup run m) m.made.event (asked_by run m) m.made.met
      (reasons setup run m ms (there m.made (head_there m.made (trace_of ms))) next)) sound)
      next

off : (b : Bool) → b ≡ false → b ≡ true → ⊥
off b e h = cc

-- what holds of every link as it opens, and where none is
pub opens_link : (setup : Setup) (P : LinkCell → Type 0) → P no_link → ((r d : ℕ) → P (opening_link setup r d)) → (r d : ℕ)
    → P (link_in (opening setup) r d)
opens_link setup P none all r d =
    each_has (λ (row : List LinkCell). P (slice_index_or row d no_link))
    (λ k. map (opening_link setup k) (range_with_len 0 (length setup.shards))) 0 (length setup.shards) r [] none
    (λ k. each_has P (opening_link setup k) 0 (length setup.shards) d no_link none (all k))

pub opens_sound : (L : Node → Why → Type 0) (W : ShardId → ShardId → Type 0) (setup : Setup) → Sound L W (opening_run setup)
opens_sound L W setup = record {
  decided = tt;
  failed = λ r d. opens_link setup (λ (cell : LinkCell). cell.link.failed ≡ true → FitFailed L W r d)
      (λ h. absurd (off _ refl h)) (λ i j h. absurd (off _ refl h)) r.0 d.0;
  owed = tt;
}

opens_counted : (setup : Setup) (moments : List Moment) → Counted (trace_of moments) moments (opening_run setup)
opens_counted setup moments = record {
  links = λ r d.
      let none : (link_in (opening setup) r.0 d.0).link.crashes ≡ 0
      = opens_link setup (λ (cell : LinkCell). cell.link.crashes ≡ 0) refl (λ i j. refl) r.0 d.0 in
      omega arith;
  control = omega arith;
}

all_sound : (setup : Setup) (trace : List Made) (last : Run) → IsTrace setup trace last → Sound (HasHappened trace) (HasWanted trace) last
all_sound setup trace last is =
    subst (λ (t : List Made). Sound (HasHappened t) (HasWanted t) last) (sym is.made)
    (subst (λ (run : Run). Sound (HasHappened (trace_of is.moments)) (HasWanted (trace_of is.moments)) run) (sym is.ends)
    (from_run (trace_of is.moments) setup (opening_run setup) is.moments (λ made c. c) is.schedule
    (opens_sound (HasHappened (trace_of is.moments)) (HasWanted (trace_of is.moments)) setup) (opens_counted setup is.moments)))

pub ends_have_causes : EndsHaveCauses
ends_have_causes setup trace last n w is e =
    subst (λ (end : Option End). FitEnd (HasHappened trace) end) e (all_sound setup trace last is).decided

pub links_have_causes : LinksHaveCauses
links_have_causes setup trace last r d is h = (all_sound setup trace last is).failed r d h
