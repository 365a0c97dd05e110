-- A step takes of what is left, or leaves the coordinator and the clients as they are.
use Rattle.std.proofs.Common.{◌≡◌, ◌<◌, ◌≤◌, ◌⊎◌, inl, inr, ℕ, zero, suc, ◌+◌, ◌*◌, ◌==◌, Bool, true, false, not, ◌&&◌, cond, List, [], ◌∷◌, ◌++◌, length, nat_lt, Option, Some, None, is_none, is_some, refl, sym, ap, subst, ◌∙◌, slice_index_or}
use Rattle.std.specs.Prelude.{⊤}
use Rattle.std.proofs.Math.Nat.{mul-le-mul_right}
use Rattle.std.proofs.lemmas.Bool.Decides.{nat_tests}
use native.Mathlib.Omega.{arith}
use Rattle.resh_value.specs.declared.value.ShardId.{ShardId}
use Rattle.resh_value.specs.declared.value.Value.{Value}
use Rattle.resh_oplog.specs.declared.piece.Piece.{Piece}
use Rattle.resh_stamp.specs.declared.stamp.Stamp.{Stamp}
use Rattle.resh_progress.specs.declared.message.Message.{Message}
use Rattle.resh_progress.specs.declared.message.Message.TheVariants.{Prepare, Donate, Block, Install, Release}
use Rattle.resh_coord.specs.Control.{Control, begins, is_true_at, may_advance, may_report, may_tell, message_of, takes_reports, unless_decided, with_told}
use Rattle.resh_coord.specs.declared.cause.Cause.{Cause}
use Rattle.resh_coord.specs.declared.cause.Cause.TheVariants.{Asked}
use Rattle.resh_coord.specs.declared.phase.Phase.TheVariants.{Done}
use Rattle.resh_command.specs.declared.command.Command.{Command}
use Rattle.resh_command.specs.declared.reply.Reply.{Reply}
use Rattle.resh_bag.specs.Answer.{Doing, adds, replaces, removes, says, reply_of}
use Rattle.resh_model.specs.Orders.{is_abort}
use Rattle.resh_shard.specs.declared.act.Which.{Which}
use Rattle.resh_shard.specs.declared.act.Which.TheVariants.{Old, New}
use Rattle.resh_setup.specs.declared.event.Event.{Event}
use Rattle.resh_setup.specs.declared.event.Event.TheVariants.{Client, Begin, Tell, Retell, Advance, Clone, Fetch, Cut, Apply, Again, Record, Crash, Report, Fail}
use Rattle.resh_setup.specs.Validity.{IsValid}
use Rattle.resh_setup.specs.declared.setup.Setup.{Setup}
use Rattle.resh_setup.specs.declared.trace.Met.{Met}
use Rattle.resh_setup.specs.declared.trace.Met.TheVariants.{Row, CrashedBefore, CrashedAfter, Failed, Lost, NoMemory, NoMemoryInMove}
use Rattle.resh_cells.specs.Cells.{client_in, lane_in, lanes_of, no_client, on_control, on_lane}
use Rattle.resh_cells.specs.declared.cluster.ClientCell.{ClientCell}
use Rattle.resh_cells.specs.declared.cluster.Cluster.{Cluster}
use Rattle.resh_events.specs.Luck as luck
use Rattle.resh_events.specs.Luck.{may_meet}
use Rattle.resh_events.specs.Plans.{IsWant, given_by}
use Rattle.resh_events.specs.Runs.{Moment, Owed, Run, after, after_all, asked_by}
use Rattle.resh_events.specs.Schedules.{IsSchedule, Stands}
use Rattle.resh_events.specs.Steps.{IsStep, Line, first_moment, idles, makes, may_step, moments_of, owed_first, owed_moment, paid, piece_for}
use Rattle.resh_events.specs.Table.{change, may}
use Rattle.resh_events.specs.Targets.{doing_of, next_command}
use Rattle.resh_events.specs.rows.Again as again
use Rattle.resh_events.specs.rows.Apply as apply
use Rattle.resh_events.specs.rows.Apply.{is_at}
use Rattle.resh_events.specs.rows.Client as client
use Rattle.resh_events.specs.rows.Client.{Coming, coming, waits, refreshes, comes}
use Rattle.resh_events.specs.rows.Fail as fail
use Rattle.resh_events.specs.rows.Report as report
use Rattle.resh_events.specs.rows.Tell as tell
use Rattle.resh_lane.specs.Lanes as lane
use Rattle.resh_rounds.specs.Rounds.{left_in, marks_left}
use Rattle.resh_rounds.specs.Serving.{IsRunning}
use Rattle.resh_rounds.specs.Supplies.{client_left, phases_left, supply}
use Rattle.resh_ending.proofs.Applying.{both, by_luck, lt_by}
use Rattle.resh_rounds.proofs.Stages.{StageGoes, StaysIn, advanced_less, begun_less, marks_small, report_less, told_less, unless_moves}
use Rattle.resh_rounds.proofs.Stepping.{asked_of, call_pays, client_pays, phase_pays, refused_pays}
use Rattle.resh_rounds.proofs.Asking.{answer_less, asks_in, map_known, map_less, never_again, never_waits}
use Rattle.resh_rounds.proofs.Running.{stays_running}
use Rattle.resh_rounds.proofs.Supplying.{after_goes, no_event_adds}

-- a trial of it can have left all as it was: it couldn't be made, or isn't one of those that always do something
abbrev pub IsQuiet : Setup → Event → Cluster → Type 0
IsQuiet setup (Client c) cluster = cluster.control.phase ≡ Done → is_none (next_command setup cluster c) ≡ true
IsQuiet setup Begin cluster = begins cluster.control.phase ≡ false
IsQuiet setup (Tell s) cluster = (may_tell cluster.control s.0 && not (is_true_at cluster.control.told s.0)) ≡ false
IsQuiet setup Advance cluster = may_advance cluster.control ≡ false
IsQuiet setup other cluster = ⊤

-- a phase is left, or a mark is made, or a client is answered or hears of the new map; or neither the coordinator nor a
-- client changes
data Moves (setup : Setup) (event : Event) (one other : Cluster) : Type 0 where
  leaves : phases_left other.control < phases_left one.control → Moves setup event one other
  marks : marks_left other.control < marks_left one.control → Moves setup event one other
  answers : (c : ℕ) → c < length setup.clients
      → client_left (asked_of setup c) (client_in other c) < client_left (asked_of setup c) (client_in one c)
      → Moves setup event one other
  stays : other.control ≡ one.control → other.clients ≡ one.clients → IsQuiet setup event one → Moves setup event one other

unless_done : (setup : Setup) (event : Event) (one other : Cluster) → other.clients ≡ one.clients → IsQuiet setup event one
    → ((phases_left other.control < phases_left one.control) ⊎ (other.control ≡ one.control)) → Moves setup event one other
unless_done setup event one other clients quiet (inl lt) = leaves lt
unless_done setup event one other clients quiet (inr e) = stays e clients quiet

did_clients : (stamp : Stamp) (doing : Doing) (cluster : Cluster) → (client.did stamp doing cluster).clients ≡ cluster.clients
did_clients stamp (adds s d) cluster = refl
did_clients stamp (replaces s d t e) cluster = by (t == s)
  where
    by : (is : Bool) → (cond is (client.done_at stamp s (replaces s d t e) cluster) (client.moved stamp s d t e cluster)).clients
        ≡ cluster.clients
    by true = refl
    by false = refl
did_clients stamp (removes s d) cluster = refl
did_clients stamp (says reply) cluster = refl

module _ (setup : Setup) (cluster : Cluster) (valid : IsValid setup) (is : IsRunning setup cluster) (stamp : Stamp) (c : ℕ)
    (command : Command) (next : next_command setup cluster c ≡ Some command) where
  asks : (c < length setup.clients) × (length (client_in cluster c).replies < asked_of setup c)
  asks = asks_in setup cluster c command next

  stands : c < length cluster.clients
  stands = lt_by c _ _ (sym is.manned.clients) asks.0

  replied : (r : Reply) (other : Cluster) → other.clients ≡ cluster.clients → Moves setup (Client c) cluster (client.with_reply c r other)
  replied r other same = answers c asks.0 (answer_less (asked_of setup c) c r cluster other same stands asks.1)

  answered_moves : Moves setup (Client c) cluster (client.answered setup cluster stamp c command)
  answered_moves = by (is_abort command)
    where
      by : (t : Bool) → Moves setup (Client c) cluster
          (cond t (client.abort_asked c cluster) (client.done setup cluster stamp c (doing_of setup cluster c command)))
      by true =
          replied (client.abort_reply cluster.control.decision)
          (on_control (unless_decided (Asked c (client.next_number cluster c))) cluster) refl
      by false =
          let doing : Doing = doing_of setup cluster c command in
          replied (reply_of doing) (client.did stamp doing cluster) (did_clients stamp doing cluster)

  refresh_moves : (w : Which) → (client_in cluster c).knows ≡ w → coming setup cluster c command ≡ refreshes
      → Moves setup (Client c) cluster (client.with_new_map c cluster)
  refresh_moves Old knows h = answers c asks.0 (map_less (asked_of setup c) c cluster stands knows)
  refresh_moves New knows h =
      stays refl (map_known c cluster knows) (λ over. absurd (never_again setup cluster valid is over c command knows h))

  come_moves : (x : Coming) → coming setup cluster c command ≡ x
      → Moves setup (Client c) cluster (client.change_by setup cluster stamp c command x)
  come_moves waits h = stays refl refl (λ over. absurd (never_waits setup cluster valid is over c command h))
  come_moves refreshes h = refresh_moves (client_in cluster c).knows refl h
  come_moves comes h = answered_moves

command_moves : (setup : Setup) (cluster : Cluster) (stamp : Stamp) (c : ℕ) → IsValid setup → IsRunning setup cluster
    → Moves setup (Client c) cluster (client.change setup cluster stamp c)
command_moves setup cluster stamp c valid is = by (next_command setup cluster c) refl
  where
    by : (next : Option Command) → next_command setup cluster c ≡ next
        → Moves setup (Client c) cluster (client.change_of setup cluster stamp c next)
    by None e = stays refl refl (λ over. ap (λ (o : Option Command). is_none o) e)
    by (Some command) e = come_moves setup cluster valid is stamp c command e (coming setup cluster c command) refl

not_false : (b : Bool) → not b ≡ true → b ≡ false
not_false true e = cc
not_false false e = refl

below : (a b : ℕ) → nat_lt a b ≡ true → a < b
below a b e = grind (arith, nat_tests)

message_same : (stamp : Stamp) (s : ℕ) (message : Message) (cluster : Cluster)
    → (tell.told stamp s message cluster).control ≡ cluster.control
message_same stamp s Prepare cluster = refl
message_same stamp s (Donate time) cluster = refl
message_same stamp s Block cluster = refl
message_same stamp s Install cluster = refl
message_same stamp s Release cluster = refl

tell_moves : (setup : Setup) (stamp : Stamp) (cluster : Cluster) (s : ShardId) → tell.may cluster s.0 ≡ true
    → Moves setup (Tell s) cluster (tell.change stamp cluster s.0)
tell_moves setup stamp cluster s h = by (message_of cluster.control) refl
  where
    first : (may_tell cluster.control s.0 ≡ true) × (not (is_true_at cluster.control.told s.0) ≡ true)
    first = both (may_tell cluster.control s.0) (not (is_true_at cluster.control.told s.0)) h

    second : (is_some (message_of cluster.control) ≡ true) × (nat_lt s.0 (length cluster.control.told) ≡ true)
    second = both (is_some (message_of cluster.control)) (nat_lt s.0 (length cluster.control.told)) first.0

    by : (message : Option Message) → message_of cluster.control ≡ message
        → Moves setup (Tell s) cluster (tell.told_if stamp s.0 message cluster)
    by None is = let some : is_some (message_of cluster.control) ≡ true = second.0 in cc
    by (Some message) is =
        marks (subst (λ (c : Control). marks_left (with_told s.0 c) < marks_left cluster.control)
        (sym (message_same stamp s.0 message cluster))
        (told_less s.0 cluster.control (below s.0 (length cluster.control.told) second.1)
        (not_false (is_true_at cluster.control.told s.0) first.1)))

report_moves : (setup : Setup) (cluster : Cluster) (r : ShardId) → report.may cluster r.0 ≡ true
    → Moves setup (Report r) cluster (report.change cluster r.0)
report_moves setup cluster r h =
    let first = both (may_report cluster.control r.0) _ h in
    let second = both (takes_reports cluster.control.phase) _ first.0 in
    let third = both (nat_lt r.0 (length cluster.control.reported)) (not (is_true_at cluster.control.reported r.0)) second.1 in
    marks (report_less r.0 (report.clash_in cluster.control.phase (lanes_of cluster r.0)) cluster.control
    (below r.0 (length cluster.control.reported) third.0) (not_false (is_true_at cluster.control.reported r.0) third.1))

apply_moves : (setup : Setup) (cluster : Cluster) (r d : ShardId) (l : ℕ) (piece : Option Piece)
    → Moves setup (Apply r d l) cluster (apply.change cluster r.0 d.0 l piece)
apply_moves setup cluster r d l None = stays refl refl tt
apply_moves setup cluster r d l (Some piece) = stays refl refl tt

again_moves : (setup : Setup) (cluster : Cluster) (r d : ShardId) (l position : ℕ) (piece : Option Piece)
    → Moves setup (Again r d l position) cluster (again.change cluster r.0 d.0 l piece)
again_moves setup cluster r d l position None = stays refl refl tt
again_moves setup cluster r d l position (Some piece) = by (is_at (lane_in cluster r.0 l) piece)
  where
    by : (t : Bool) → Moves setup (Again r d l position) cluster (cond t (on_lane r.0 l (lane.taken piece) cluster) cluster)
    by true = stays refl refl tt
    by false = stays refl refl tt

fail_moves : (setup : Setup) (cluster : Cluster) (named : Option (ShardId × ShardId)) (cause : Cause)
    → Moves setup (Fail named cause) cluster (fail.change cluster named cause)
fail_moves setup cluster None cause =
    unless_done setup (Fail None cause) cluster _ refl tt (unless_moves cause cluster.control)
fail_moves setup cluster (Some named) cause =
    unless_done setup (Fail (Some named) cause) cluster _ refl tt (unless_moves cause cluster.control)

module _ (setup : Setup) (valid : IsValid setup) (stamp : Stamp) where
  row_moves : (cluster : Cluster) (event : Event) (piece : Option Piece) → IsRunning setup cluster
      → may setup cluster event piece ≡ true → Moves setup event cluster (change setup stamp cluster event piece)
  unfolding may change
  row_moves cluster (Client c) piece is h = command_moves setup cluster stamp c valid is
  row_moves cluster Begin piece is h = leaves (begun_less cluster.control h)
  row_moves cluster (Tell s) piece is h = tell_moves setup stamp cluster s h
  row_moves cluster (Retell s message) piece is h = stays refl refl tt
  row_moves cluster Advance piece is h = leaves (advanced_less stamp.time cluster.control h)
  row_moves cluster (Clone r d) piece is h = stays refl refl tt
  row_moves cluster (Fetch r d) piece is h = stays refl refl tt
  row_moves cluster (Cut r d) piece is h = stays refl refl tt
  row_moves cluster (Apply r d l) piece is h = apply_moves setup cluster r d l piece
  row_moves cluster (Again r d l position) piece is h = again_moves setup cluster r d l position piece
  row_moves cluster (Record r d) piece is h = stays refl refl tt
  row_moves cluster (Crash r d) piece is h = stays refl refl tt
  row_moves cluster (Report r) piece is h = report_moves setup cluster r h
  row_moves cluster (Fail named cause) piece is h = fail_moves setup cluster named cause

-- a number of two digits
first_less : (s t k m n : ℕ) → t < s → n < k → t * k + n < s * k + m
first_less s t k m n lt small =
    let scaled : suc t * k ≤ s * k = mul-le-mul_right k lt in
    sum (t * k) (s * k) k m n (ranged t k (s * k) scaled) small
  where
    ranged : (t k x : ℕ) → suc t * k ≤ x → t * k + k ≤ x
    ranged t k x q = grind (arith, q)

    sum : (a b k m n : ℕ) → a + k ≤ b → n < k → a + n < b + m
    sum a b k m n h lt = omega arith

second_less : (s t k m n : ℕ) → t ≤ s → n < m → t * k + n < s * k + m
second_less s t k m n le lt = sum (t * k) (s * k) m n (mul-le-mul_right k le) lt
  where
    sum : (a b m n : ℕ) → a ≤ b → n < m → a + n < b + m
    sum a b m n h q = omega arith

neither_more : (s t k m n : ℕ) → t ≤ s → n ≤ m → t * k + n ≤ s * k + m
neither_more s t k m n le lt = sum (t * k) (s * k) m n (mul-le-mul_right k le) lt
  where
    sum : (a b m n : ℕ) → a ≤ b → n ≤ m → a + n ≤ b + m
    sum a b m n h q = omega arith

below_less : (a b : ℕ) → b < a → b ≤ a
below_less a b lt = omega arith

abbrev base : Setup → ℕ
base setup = 2 * length setup.shards + 1

small : (setup : Setup) (cluster : Cluster) → IsRunning setup cluster → marks_left cluster.control < base setup
small setup cluster is = marks_small cluster.control (length setup.shards) is.manned.told is.manned.reported

supply_falls : (setup : Setup) (run other : Run) → IsRunning setup other.cluster → supply setup other < supply setup run
    → left_in setup other < left_in setup run
supply_falls setup run other is lt =
    first_less (supply setup run) (supply setup other) (base setup) (marks_left run.cluster.control) (marks_left other.cluster.control)
    lt (small setup other.cluster is)

event_most : (setup : Setup) (run : Run) (m : Moment) → IsRunning setup run.cluster
    → left_in setup (after setup run m) ≤ left_in setup run
event_most setup run m is = by (after_goes setup run m).stage.moves
  where
    to : Run
    to = after setup run m

    by : (phases_left to.cluster.control < phases_left run.cluster.control) ⊎ StaysIn run.cluster.control to.cluster.control
        → left_in setup to ≤ left_in setup run
    by (inl lt) =
        below_less (left_in setup run) (left_in setup to)
        (supply_falls setup run to (stays_running setup run m is) (phase_pays setup run m lt))
    by (inr stay) =
        neither_more (supply setup run) (supply setup to) (base setup) (marks_left run.cluster.control) (marks_left to.cluster.control)
        (no_event_adds setup run m) stay.marks

-- less is left, or neither the coordinator nor a client has changed
abbrev pub Same : Run → Run → Type 0
Same run other = (other.cluster.control ≡ run.cluster.control) × (other.cluster.clients ≡ run.cluster.clients)

abbrev pub Falls : Setup → Run → Run → Type 0
Falls setup run other = left_in setup other < left_in setup run

-- what a run becomes
pub record Went (setup : Setup) (run other : Run) : Type 0 where
  pub running : IsRunning setup other.cluster
  pub most : left_in setup other ≤ left_in setup run
  pub moves : Falls setup run other ⊎ Same run other

alike : (n : ℕ) → n ≤ n
alike n = omega arith

at_most : (a b c : ℕ) → b ≤ a → c ≤ b → c ≤ a
at_most a b c h k = omega arith

pub less_then : (a b c : ℕ) → b < a → c ≤ b → c < a
less_then a b c h k = omega arith

pub then_less : (a b c : ℕ) → b ≤ a → c < b → c < a
then_less a b c h k = omega arith

pub went_none : (setup : Setup) (run : Run) → IsRunning setup run.cluster → Went setup run run
went_none setup run is = record { running = is; most = alike (left_in setup run); moves = inr (refl, refl) }

pub went_then : (setup : Setup) (run other last : Run) → Went setup run other → Went setup other last → Went setup run last
went_then setup run other last h k = record {
  running = k.running;
  most = at_most (left_in setup run) (left_in setup other) (left_in setup last) h.most k.most;
  moves = by h.moves k.moves;
}
  where
    by : Falls setup run other ⊎ Same run other → Falls setup other last ⊎ Same other last → Falls setup run last ⊎ Same run last
    by (inl lt) more = inl (less_then (left_in setup run) (left_in setup other) (left_in setup last) lt k.most)
    by (inr e) (inl lt) = inl (then_less (left_in setup run) (left_in setup other) (left_in setup last) h.most lt)
    by (inr e) (inr f) = inr (f.0 ∙ e.0, f.1 ∙ e.1)

-- one event
abbrev Made : Setup → Run → Moment → Type 0
Made setup run m =
    Falls setup run (after setup run m) ⊎ (Same run (after setup run m) × IsQuiet setup m.made.event run.cluster)

after_control : (setup : Setup) (run : Run) (m : Moment)
    → (after setup run m).cluster.control ≡ (luck.change setup m.made.stamp run.cluster m.made.event m.given.piece m.made.met).control
unfolding after
after_control setup run m = refl

after_clients : (setup : Setup) (run : Run) (m : Moment)
    → (after setup run m).cluster.clients ≡ (luck.change setup m.made.stamp run.cluster m.made.event m.given.piece m.made.met).clients
unfolding after
after_clients setup run m = refl

row_made : (setup : Setup) (run : Run) (m : Moment) → IsValid setup → IsRunning setup run.cluster → m.made.met ≡ Row
    → may setup run.cluster m.made.event m.given.piece ≡ true → Made setup run m
row_made setup run m valid is row may =
    by (row_moves setup valid m.made.stamp run.cluster m.made.event m.given.piece is may)
  where
    to : Run
    to = after setup run m

    next : Cluster
    next = change setup m.made.stamp run.cluster m.made.event m.given.piece

    control : to.cluster.control ≡ next.control
    control = after_control setup run m
        ∙ ap (λ (met : Met). (luck.change setup m.made.stamp run.cluster m.made.event m.given.piece met).control) row

    clients : to.cluster.clients ≡ next.clients
    clients = after_clients setup run m
        ∙ ap (λ (met : Met). (luck.change setup m.made.stamp run.cluster m.made.event m.given.piece met).clients) row

    by : Moves setup m.made.event run.cluster next → Made setup run m
    by (leaves lt) =
        inl (supply_falls setup run to (stays_running setup run m is) (phase_pays setup run m
        (subst (λ (c : Control). phases_left c < phases_left run.cluster.control) (sym control) lt)))
    by (marks lt) =
        inl (second_less (supply setup run) (supply setup to) (base setup) (marks_left run.cluster.control)
        (marks_left to.cluster.control) (no_event_adds setup run m)
        (subst (λ (c : Control). marks_left c < marks_left run.cluster.control) (sym control) lt))
    by (answers c few lt) =
        inl (supply_falls setup run to (stays_running setup run m is) (client_pays setup run m c few
        (subst (λ (cs : List ClientCell). client_left (asked_of setup c) (slice_index_or cs c no_client)
        < client_left (asked_of setup c) (client_in run.cluster c)) (sym clients) lt)))
    by (stays e f quiet) = inr ((control ∙ e, clients ∙ f), quiet)

went_by : (setup : Setup) (run : Run) (m : Moment) → IsRunning setup run.cluster → Made setup run m → Went setup run (after setup run m)
went_by setup run m is made = record {
  running = stays_running setup run m is;
  most = event_most setup run m is;
  moves = by made;
}
  where
    by : Made setup run m → Falls setup run (after setup run m) ⊎ Same run (after setup run m)
    by (inl lt) = inl lt
    by (inr e) = inr e.0

-- what is owed is made as it stands
abbrev AreRows : List Moment → Type 0
AreRows [] = ⊤
AreRows (m ∷ moments) = (m.made.met ≡ Row) × AreRows moments

owed_rows : (setup : Setup) (run : Run) (owed : List Owed) (more : Run → List Moment) → ((later : Run) → AreRows (more later))
    → AreRows (owed_first setup run owed more)
owed_rows setup run [] more all = tt
owed_rows setup run (o ∷ rest) more all = (refl, all (after setup run (owed_moment setup run o)))

paid_rows : (setup : Setup) (n : ℕ) (run : Run) → AreRows (paid setup n run)
paid_rows setup zero run = tt
paid_rows setup (suc n) run = owed_rows setup run run.owed (λ later. paid setup n later) (λ later. paid_rows setup n later)

rows_went : (setup : Setup) (run : Run) (moments : List Moment) → IsValid setup → IsRunning setup run.cluster
    → IsSchedule setup run moments → AreRows moments → Went setup run (after_all setup run moments)
unfolding after_all
rows_went setup run [] valid is schedule rows = went_none setup run is
rows_went setup run (m ∷ moments) valid is schedule rows =
    let one : Went setup run (after setup run m) = went_by setup run m is (row_made setup run m valid is rows.0 schedule.0.may) in
    went_then setup run (after setup run m) _ one
    (rows_went setup (after setup run m) moments valid one.running schedule.1 rows.1)

-- the first event of a step, where it wants memory
want_made : (setup : Setup) (run : Run) (event : Event) → IsRunning setup run.cluster → may_step setup run.cluster event ≡ true
    → may_meet setup run.cluster event (piece_for run.cluster event) NoMemory ≡ true
    → Made setup run (first_moment setup run event NoMemory)
unfolding after
want_made setup run (Client c) is may meets =
    inl (supply_falls setup run (after setup run (first_moment setup run (Client c) NoMemory))
    (stays_running setup run (first_moment setup run (Client c) NoMemory) is)
    (refused_pays setup run c NoMemory (inl refl) is.manned.clients may))
want_made setup run Begin is may meets = cc
want_made setup run (Tell s) is may meets = cc
want_made setup run Advance is may meets = cc
want_made setup run other is may meets = inr ((refl, refl), tt)

move_made : (setup : Setup) (run : Run) (event : Event) → IsRunning setup run.cluster → may_step setup run.cluster event ≡ true
    → may_meet setup run.cluster event (piece_for run.cluster event) NoMemoryInMove ≡ true
    → Made setup run (first_moment setup run event NoMemoryInMove)
move_made setup run (Client c) is may meets =
    inl (supply_falls setup run (after setup run (first_moment setup run (Client c) NoMemoryInMove))
    (stays_running setup run (first_moment setup run (Client c) NoMemoryInMove) is)
    (refused_pays setup run c NoMemoryInMove (inr refl) is.manned.clients may))
move_made setup run other is may meets = cc

fate_made : (setup : Setup) (run : Run) (event : Event) (met : Met) → IsRunning setup run.cluster → (met ≡ Row → ⊥)
    → met ≡ given_by setup run.lucks (asked_by run (first_moment setup run event met))
    → Made setup run (first_moment setup run event met)
fate_made setup run event met is other given =
    let m : Moment = first_moment setup run event met in
    inl (supply_falls setup run (after setup run m) (stays_running setup run m is) (call_pays setup run m (λ e. other (given ∙ e))))

first_made : (setup : Setup) (run : Run) (event : Event) (met : Met) → IsValid setup → IsRunning setup run.cluster
    → may_step setup run.cluster event ≡ true → may_meet setup run.cluster event (piece_for run.cluster event) met ≡ true
    → (met ≡ given_by setup run.lucks (asked_by run (first_moment setup run event met))) ⊎ IsWant met
    → Made setup run (first_moment setup run event met)
first_made setup run event Row valid is may meets given =
    row_made setup run (first_moment setup run event Row) valid is refl may
first_made setup run event CrashedBefore valid is may meets given =
    fate_made setup run event CrashedBefore is (λ e. cc) (by_luck CrashedBefore _ (λ e. cc) (λ e. cc) given)
first_made setup run event CrashedAfter valid is may meets given =
    fate_made setup run event CrashedAfter is (λ e. cc) (by_luck CrashedAfter _ (λ e. cc) (λ e. cc) given)
first_made setup run event Failed valid is may meets given =
    fate_made setup run event Failed is (λ e. cc) (by_luck Failed _ (λ e. cc) (λ e. cc) given)
first_made setup run event Lost valid is may meets given =
    fate_made setup run event Lost is (λ e. cc) (by_luck Lost _ (λ e. cc) (λ e. cc) given)
first_made setup run event NoMemory valid is may meets given = want_made setup run event is may meets
first_made setup run event NoMemoryInMove valid is may meets given = move_made setup run event is may meets

-- a step
pub record StepWent (setup : Setup) (run other : Run) (event : Event) : Type 0 where
  pub went : Went setup run other
  pub moves : Falls setup run other ⊎ (Same run other × IsQuiet setup event run.cluster)

no_command : (o : Option Command) → is_some o ≡ false → is_none o ≡ true
no_command None h = refl
no_command (Some command) h = cc

idle_quiet : (setup : Setup) (cluster : Cluster) (event : Event) → may_step setup cluster event ≡ false
    → IsQuiet setup event cluster
unfolding may
idle_quiet setup cluster (Client c) h = λ over. no_command (next_command setup cluster c) h
idle_quiet setup cluster Begin h = h
idle_quiet setup cluster (Tell s) h = h
idle_quiet setup cluster Advance h = h
idle_quiet setup cluster other h = tt

made_then : (setup : Setup) (run last : Run) (m : Moment) → Made setup run m → Went setup run (after setup run m)
    → Went setup (after setup run m) last → Falls setup run last ⊎ (Same run last × IsQuiet setup m.made.event run.cluster)
made_then setup run last m made one more = by made more.moves
  where
    to : Run
    to = after setup run m

    by : Made setup run m → Falls setup to last ⊎ Same to last
        → Falls setup run last ⊎ (Same run last × IsQuiet setup m.made.event run.cluster)
    by (inl lt) next = inl (less_then (left_in setup run) (left_in setup to) (left_in setup last) lt more.most)
    by (inr e) (inl lt) = inl (then_less (left_in setup run) (left_in setup to) (left_in setup last) one.most lt)
    by (inr e) (inr f) = inr ((f.0 ∙ e.0.0, f.1 ∙ e.0.1), e.1)

pub step_went : (setup : Setup) (run : Run) (event : Event) (moments : List Moment) (lines : List Line) → IsValid setup
    → IsRunning setup run.cluster → IsStep setup run event moments lines
    → StepWent setup run (after_all setup run moments) event
unfolding after_all
step_went setup run event moments lines valid is (idles never nothing shows) =
    subst (λ (ms : List Moment). StepWent setup run (after_all setup run ms) event) (sym nothing)
    (record { went = went_none setup run is; moves = inr ((refl, refl), idle_quiet setup run.cluster event never) })
step_went setup run event moments lines valid is (makes met goes given equal schedule shows) =
    let m : Moment = first_moment setup run event met in
    let whole : IsSchedule setup run (moments_of setup run event met) = subst (λ (ms : List Moment). IsSchedule setup run ms) equal schedule in
    let made : Made setup run m = first_made setup run event met valid is goes whole.0.meets given in
    let one : Went setup run (after setup run m) = went_by setup run m is made in
    let more : Went setup (after setup run m) (after_all setup (after setup run m) (paid setup 2 (after setup run m)))
    = rows_went setup (after setup run m) (paid setup 2 (after setup run m)) valid one.running whole.1
    (paid_rows setup 2 (after setup run m)) in
    subst (λ (ms : List Moment). StepWent setup run (after_all setup run ms) event) (sym equal)
    (record {
      went = went_then setup run (after setup run m) _ one more;
      moves = made_then setup run _ m made one more;
    })
