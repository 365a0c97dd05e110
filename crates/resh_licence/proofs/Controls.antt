-- What every event makes of the coordinator: a crash is counted by the event that met it, and only a failure that is
-- heard is decided.
use Rattle.std.proofs.Common.{◌≡◌, ◌≤◌, ℕ, ◌+◌, ◌-◌, ◌^◌, min, ◌==◌, Bool, true, false, cond, Option, Some, None, refl, ap, sym, subst, arith}
use Rattle.std.specs.Prelude.{⊤, is_some, slice_index_or, slice_set}
use Rattle.resh_value.specs.declared.value.ShardId.{ShardId}
use Rattle.resh_value.specs.declared.value.Value.{Value}
use Rattle.resh_oplog.specs.declared.piece.Piece.{Piece}
use Rattle.resh_stamp.specs.declared.stamp.Stamp.{Stamp}
use Rattle.resh_progress.specs.declared.message.Message.{Message}
use Rattle.resh_progress.specs.declared.message.Message.TheVariants.{Prepare, Donate, Block, Install, Release}
use Rattle.resh_coord.specs.Control.{Control, aborted, advanced, begins, begun, decided_at, decided_by_clashes, first_clash, left, may_advance, message_of, unless_decided, with_phase}
use Rattle.resh_coord.specs.declared.cause.Cause.{Cause}
use Rattle.resh_coord.specs.declared.cause.Cause.TheVariants as cause
use Rattle.resh_coord.specs.declared.cause.End.{End}
use Rattle.resh_coord.specs.declared.cause.End.TheVariants.{Aborted}
use Rattle.resh_coord.specs.declared.cause.Node.{Node}
use Rattle.resh_coord.specs.declared.cause.Why.{Why}
use Rattle.resh_coord.specs.declared.phase.Phase.{Phase}
use Rattle.resh_coord.specs.declared.phase.Phase.TheVariants as phase
use Rattle.resh_command.specs.declared.command.Command.{Command}
use Rattle.resh_bag.specs.Answer.{Doing, adds, replaces, removes, says}
use Rattle.resh_model.specs.Orders.{is_abort}
use Rattle.resh_setup.specs.declared.event.Event.{Event}
use Rattle.resh_setup.specs.declared.event.Event.TheVariants.{Client, Begin, Tell, Retell, Advance, Clone, Fetch, Cut, Apply, Again, Record, Crash, Report, Fail}
use Rattle.resh_setup.specs.declared.plan.Who.TheVariants.{Coordinator, Link, Lane}
use Rattle.resh_setup.specs.declared.setup.Setup.{Setup}
use Rattle.resh_setup.specs.declared.trace.Met.{Met}
use Rattle.resh_setup.specs.declared.trace.Met.TheVariants.{Row, CrashedBefore, CrashedAfter, Failed, Lost, NoMemory, NoMemoryInMove}
use Rattle.resh_cells.specs.Cells.{lane_in}
use Rattle.resh_cells.specs.declared.cluster.Cluster.{Cluster}
use Rattle.resh_events.specs.Luck as luck
use Rattle.resh_events.specs.Luck.{Asks, asks, quiet, commits, delivers, counted, wanting}
use Rattle.resh_events.specs.Table.{change}
use Rattle.resh_events.specs.Targets.{doing_of, next_command}
use Rattle.resh_events.specs.rows.Again as again
use Rattle.resh_events.specs.rows.Apply as apply
use Rattle.resh_events.specs.rows.Apply.{is_at}
use Rattle.resh_events.specs.rows.Client as client
use Rattle.resh_events.specs.rows.Client.{Coming, coming, waits, refreshes, comes, next_number}
use Rattle.resh_events.specs.rows.Fail as fail
use Rattle.resh_events.specs.rows.Tell as tell
use Rattle.resh_licence.specs.Causes.{is_crash_met}
use Rattle.resh_licence.proofs.Numbers.{one}

-- a failure that has leave, and any other cause
abbrev pub FitCause : (Node → Why → Type 0) → Cause → Type 0
FitCause L (cause.Failed n w) = L n w
FitCause L other = ⊤

abbrev pub FitEnd : (Node → Why → Type 0) → Option End → Type 0
FitEnd L (Some (Aborted cause)) = FitCause L cause
FitEnd L other = ⊤

-- the cause that an event brings
abbrev pub FitCauseOf : (Node → Why → Type 0) → Event → Type 0
FitCauseOf L (Fail named cause) = FitCause L cause
FitCauseOf L other = ⊤

-- a commit of the coordinator that crashed
abbrev pub is_counted : Asks → Met → Bool
is_counted (commits Coordinator) met = is_crash_met met
is_counted other met = false

-- crashes rise by so many at most, and what is decided has leave where what was decided had
pub record Holds (L : Node → Why → Type 0) (rise : ℕ) (one other : Control) : Type 0 where
  pub crashes : other.crashes ≤ one.crashes + rise
  pub fits : FitEnd L one.decision → FitEnd L other.decision

module _ (L : Node → Why → Type 0) where
  same : (rise : ℕ) (one other : Control) → other ≡ one → Holds L rise one other
  same rise one other e = record {
    crashes = let q : other.crashes ≡ one.crashes = ap (λ (c : Control). c.crashes) e in omega arith;
    fits = subst (λ (c : Control). FitEnd L c.decision) (sym e);
  }

  alike : (rise : ℕ) (one other : Control) → other.crashes ≡ one.crashes → other.decision ≡ one.decision → Holds L rise one other
  alike rise one other e q = record { crashes = omega arith; fits = subst (FitEnd L) (sym q) }

  wider : (few many : ℕ) (one other : Control) → few ≤ many → Holds L few one other → Holds L many one other
  wider few many one other le h = record { crashes = let q = h.crashes in omega arith; fits = h.fits }

  unless : (rise : ℕ) (cause : Cause) (control : Control) → FitCause L cause → Holds L rise control (unless_decided cause control)
  unless rise cause control fits = by (is_some control.decision)
    where
      by : (t : Bool) → Holds L rise control (cond t control (aborted cause control))
      by true = alike rise control control refl refl
      by false = record { crashes = omega arith; fits = λ f. fits }

  begun_holds : (rise : ℕ) (control : Control) → Holds L rise control (begun control)
  begun_holds rise control = by (begins control.phase)
    where
      by : (t : Bool) → Holds L rise control (cond t (with_phase phase.PreparingToDonate control) control)
      by true = alike rise control _ refl refl
      by false = alike rise control _ refl refl

  clashes_hold : (rise : ℕ) (control : Control) → Holds L rise control (decided_by_clashes control)
  clashes_hold rise control = by (slice_index_or control.clashes (first_clash control.clashes) None)
    where
      by : (clash : Option Value) → Holds L rise control
          (decided_at (first_clash control.clashes) clash (record control { clashes = slice_set control.clashes (first_clash control.clashes) None }))
      by None = record { crashes = omega arith; fits = λ f. tt }
      by (Some id) = record { crashes = omega arith; fits = λ f. tt }

  left_holds : (rise : ℕ) (p : Phase) (time : ℕ) (control : Control) → Holds L rise control (left p time control)
  left_holds rise phase.PreparingToDonate time control = alike rise control _ refl refl
  left_holds rise phase.Cloning time control = alike rise control _ refl refl
  left_holds rise phase.Applying time control = alike rise control _ refl refl
  left_holds rise phase.BlockingWrites time control = clashes_hold rise control
  left_holds rise other time control = alike rise control _ refl refl

  advanced_holds : (rise time : ℕ) (control : Control) → Holds L rise control (advanced time control)
  advanced_holds rise time control = by (may_advance control)
    where
      by : (t : Bool) → Holds L rise control (cond t (left control.phase time control) control)
      by true = left_holds rise control.phase time control
      by false = alike rise control _ refl refl

did_control : (stamp : Stamp) (doing : Doing) (cluster : Cluster) → (client.did stamp doing cluster).control ≡ cluster.control
did_control stamp (adds s d) cluster = refl
did_control stamp (replaces s d t e) cluster = by (t == s)
  where
    by : (same : Bool) → (cond same (client.done_at stamp s (replaces s d t e) cluster) (client.moved stamp s d t e cluster)).control ≡ cluster.control
    by true = refl
    by false = refl
did_control stamp (removes s d) cluster = refl
did_control stamp (says reply) cluster = refl

apply_control : (cluster : Cluster) (r d l : ℕ) (piece : Option Piece) → (apply.change cluster r d l piece).control ≡ cluster.control
apply_control cluster r d l None = refl
apply_control cluster r d l (Some piece) = refl

again_control : (cluster : Cluster) (r d l : ℕ) (piece : Option Piece) → (again.change cluster r d l piece).control ≡ cluster.control
again_control cluster r d l None = refl
again_control cluster r d l (Some piece) = by (is_at (lane_in cluster r l) piece)
  where
    by : (t : Bool) → (cond t (apply.change cluster r d l (Some piece)) cluster).control ≡ cluster.control
    by true = refl
    by false = refl

told_crashes : (stamp : Stamp) (s : ℕ) (message : Message) (cluster : Cluster) → (tell.told stamp s message cluster).control ≡ cluster.control
told_crashes stamp s Prepare cluster = refl
told_crashes stamp s (Donate time) cluster = refl
told_crashes stamp s Block cluster = refl
told_crashes stamp s Install cluster = refl
told_crashes stamp s Release cluster = refl

least : (n : ℕ) → 0 ≤ n
least n = omega arith

rises : (b : Bool) → b ≡ true → (before now : ℕ) → now ≤ before + 0 → min (now + 1) (2 ^ 32 - 1) ≤ before + one b
rises true e before now h = omega arith
rises false e before now h = cc

module _ (L : Node → Why → Type 0) (setup : Setup) (stamp : Stamp) where
  client_holds : (rise : ℕ) (cluster : Cluster) (c : ℕ) → Holds L rise cluster.control (client.change setup cluster stamp c).control
  client_holds rise cluster c = by (next_command setup cluster c)
    where
      answer : (command : Command) (t : Bool) → Holds L rise cluster.control
          (cond t (client.abort_asked c cluster) (client.done setup cluster stamp c (doing_of setup cluster c command))).control
      answer command true = unless L rise (cause.Asked c (next_number cluster c)) cluster.control tt
      answer command false = same L rise cluster.control _ (did_control stamp (doing_of setup cluster c command) cluster)

      come : (command : Command) (coming : Coming) → Holds L rise cluster.control (client.change_by setup cluster stamp c command coming).control
      come command waits = alike L rise cluster.control _ refl refl
      come command refreshes = alike L rise cluster.control _ refl refl
      come command comes = answer command (is_abort command)

      by : (next : Option Command) → Holds L rise cluster.control (client.change_of setup cluster stamp c next).control
      by None = alike L rise cluster.control _ refl refl
      by (Some command) = come command (coming setup cluster c command)

  tell_holds : (rise s : ℕ) (cluster : Cluster) → Holds L rise cluster.control (tell.change stamp cluster s).control
  tell_holds rise s cluster = by (message_of cluster.control)
    where
      by : (message : Option Message) → Holds L rise cluster.control (tell.told_if stamp s message cluster).control
      by None = alike L rise cluster.control _ refl refl
      by (Some message) =
          let e = told_crashes stamp s message cluster in
          alike L rise cluster.control _ (ap (λ (c : Control). c.crashes) e) (ap (λ (c : Control). c.decision) e)

  fail_holds : (rise : ℕ) (cluster : Cluster) (named : Option (ShardId × ShardId)) (cause : Cause) → FitCause L cause
      → Holds L rise cluster.control (fail.change cluster named cause).control
  fail_holds rise cluster None cause fits = unless L rise cause cluster.control fits
  fail_holds rise cluster (Some named) cause fits = unless L rise cause cluster.control fits

  row_holds : (rise : ℕ) (cluster : Cluster) (event : Event) (piece : Option Piece) → FitCauseOf L event
      → Holds L rise cluster.control (change setup stamp cluster event piece).control
  unfolding change
  row_holds rise cluster (Client c) piece fits = client_holds rise cluster c
  row_holds rise cluster Begin piece fits = begun_holds L rise cluster.control
  row_holds rise cluster (Tell s) piece fits = tell_holds rise s.0 cluster
  row_holds rise cluster (Retell s message) piece fits = alike L rise cluster.control _ refl refl
  row_holds rise cluster Advance piece fits = advanced_holds L rise stamp.time cluster.control
  row_holds rise cluster (Clone r d) piece fits = alike L rise cluster.control _ refl refl
  row_holds rise cluster (Fetch r d) piece fits = alike L rise cluster.control _ refl refl
  row_holds rise cluster (Cut r d) piece fits = alike L rise cluster.control _ refl refl
  row_holds rise cluster (Apply r d l) piece fits = same L rise cluster.control _ (apply_control cluster r.0 d.0 l piece)
  row_holds rise cluster (Again r d l position) piece fits = same L rise cluster.control _ (again_control cluster r.0 d.0 l piece)
  row_holds rise cluster (Record r d) piece fits = alike L rise cluster.control _ refl refl
  row_holds rise cluster (Crash r d) piece fits = alike L rise cluster.control _ refl refl
  row_holds rise cluster (Report r) piece fits = alike L rise cluster.control _ refl refl
  row_holds rise cluster (Fail named cause) piece fits = fail_holds rise cluster named cause fits

  -- a crash that is counted
  counts : (asked : Asks) (met : Met) (before : Control) (cluster : Cluster) → is_crash_met met ≡ true
      → Holds L 0 before cluster.control → Holds L (one (is_counted asked met)) before (counted setup asked cluster).control
  counts quiet met before cluster crash h = wider L 0 _ before cluster.control (least _) h
  counts (commits Coordinator) met before cluster crash h = record {
    crashes = rises (is_crash_met met) crash before.crashes cluster.control.crashes h.crashes;
    fits = h.fits;
  }
  counts (commits (Link r d)) met before cluster crash h = wider L 0 _ before cluster.control (least _) h
  counts (commits (Lane r d l)) met before cluster crash h = wider L 0 _ before cluster.control (least _) h
  counts (delivers who) met before cluster crash h = wider L 0 _ before cluster.control (least _) h

  wants : (rise : ℕ) (event : Event) (cluster : Cluster) → Holds L rise cluster.control (wanting setup event cluster).control
  wants rise (Client c) cluster = alike L rise cluster.control _ refl refl
  wants rise other cluster = alike L rise cluster.control _ refl refl

  pub event_holds : (cluster : Cluster) (event : Event) (piece : Option Piece) (met : Met) → FitCauseOf L event
      → Holds L (one (is_counted (asks cluster event piece) met)) cluster.control
      (luck.change setup stamp cluster event piece met).control
  event_holds cluster event piece Row fits = row_holds _ cluster event piece fits
  event_holds cluster event piece CrashedBefore fits =
      counts (asks cluster event piece) CrashedBefore cluster.control cluster refl (alike L 0 cluster.control _ refl refl)
  event_holds cluster event piece CrashedAfter fits =
      counts (asks cluster event piece) CrashedAfter cluster.control (change setup stamp cluster event piece) refl
      (row_holds 0 cluster event piece fits)
  event_holds cluster event piece Failed fits = alike L _ cluster.control _ refl refl
  event_holds cluster event piece Lost fits = alike L _ cluster.control _ refl refl
  event_holds cluster event piece NoMemory fits = wants _ event cluster
  event_holds cluster event piece NoMemoryInMove fits = wants _ event cluster
