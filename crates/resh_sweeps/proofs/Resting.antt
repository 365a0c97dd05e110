-- A step takes of what is left of rounds, or it rests: it leaves the coordinator and the links as they are, and beside them
-- a row moves a lane at most.
use Rattle.std.proofs.Common.{◌≡◌, ◌<◌, ◌≤◌, ◌⊎◌, inl, inr, ℕ, zero, suc, ◌+◌, ◌*◌, ◌==◌, Bool, true, false, not, ◌&&◌, cond, List, [], ◌∷◌, length, nat_eq, nat_lt, Option, Some, None, refl, sym, ap, subst, ◌∙◌, slice_index_or, slice_set}
use Rattle.std.specs.Prelude.{⊤}
use Rattle.std.proofs.Math.Nat.{mul-le-mul_right}
use Rattle.std.proofs.lemmas.Bool.Decides.{nat_tests}
use native.Mathlib.Omega.{arith}
use Rattle.resh_value.specs.declared.value.ShardId.{ShardId}
use Rattle.resh_oplog.specs.declared.piece.Piece.{Piece}
use Rattle.resh_stamp.specs.declared.stamp.Stamp.{Stamp}
use Rattle.resh_lane.specs.Lanes.{LaneOf, number_of, taken}
use Rattle.resh_coord.specs.Control.{Control, begins, is_true_at, may_advance, may_report, may_tell, takes_reports}
use Rattle.resh_command.specs.declared.command.Command.{Command}
use Rattle.resh_bag.specs.Answer.{Doing, adds, replaces, removes, says}
use Rattle.resh_model.specs.Orders.{is_abort}
use Rattle.resh_setup.specs.Validity.{IsValid}
use Rattle.resh_setup.specs.declared.event.Event.{Event}
use Rattle.resh_setup.specs.declared.event.Event.TheVariants.{Client, Begin, Tell, Retell, Advance, Clone, Fetch, Cut, Apply, Again, Record, Crash, Report, Fail}
use Rattle.resh_setup.specs.declared.setup.Setup.{Setup}
use Rattle.resh_setup.specs.declared.trace.Met.TheVariants.{Row}
use Rattle.resh_cells.specs.Cells.{lane_in, lanes_of, link_in, no_lane, no_link, set_in}
use Rattle.resh_cells.specs.declared.cluster.Cluster.{Cluster}
use Rattle.resh_cells.specs.declared.cluster.LinkCell.{LinkCell}
use Rattle.resh_events.specs.Runs.{Moment, Run, after, after_all}
use Rattle.resh_events.specs.Steps.{IsStep, Line, first_moment, idles, makes, may_step, moments_of, piece_for}
use Rattle.resh_events.specs.Sweep.{Makes}
use Rattle.resh_events.specs.Table.{change, may}
use Rattle.resh_events.specs.Targets.{doing_of, next_command}
use Rattle.resh_events.specs.rows.Apply as apply
use Rattle.resh_events.specs.rows.Apply.{is_at, is_given}
use Rattle.resh_events.specs.rows.Client as client
use Rattle.resh_events.specs.rows.Client.{Coming, coming, waits, refreshes, comes}
use Rattle.resh_events.specs.rows.Clone as clone
use Rattle.resh_events.specs.rows.Cut as cut
use Rattle.resh_events.specs.rows.Fetch as fetch
use Rattle.resh_events.specs.rows.Record as keep
use Rattle.resh_events.specs.rows.Report as report
use Rattle.resh_ending.proofs.Applying.{both}
use Rattle.resh_ending.proofs.Places.{set_alike}
use Rattle.resh_rounds.specs.Rounds.{left_in, marks_left}
use Rattle.resh_rounds.specs.Serving.{IsRunning}
use Rattle.resh_rounds.specs.Sums.{upto}
use Rattle.resh_rounds.specs.Supplies.{IsTried, Pays, supply}
use Rattle.resh_rounds.specs.Working.{work}
use Rattle.resh_rounds.proofs.Moving.{Falls, IsQuiet, Same, StepWent, step_went}
use Rattle.resh_rounds.proofs.Stages.{marks_small, report_less}
use Rattle.resh_rounds.proofs.Stepping.{steps_pay}
use Rattle.resh_law.specs.Laws.{EveryScheduleKeeps}
use Rattle.resh_leading.specs.Laws.{FeedsAreFew, StaysLeading, most_items}
use Rattle.resh_ready.specs.Laws.{FetchesNothing}
use Rattle.resh_sweeps.specs.Laws.{IsSweeping, has_work, rounds_left, work_left}
use Rattle.resh_sweeps.proofs.Numbers.{left_falls, undecided_in, work_falls, work_stays}
use Rattle.resh_sweeps.proofs.Sweeping.{IsLed, led, sweeping_stays}
use Rattle.resh_sweeps.proofs.Working.{clone_pays, cut_pays, fetch_pays, keep_pays}

-- an event that a round tries
abbrev pub IsTriedIn : Setup → Event → Type 0
IsTriedIn setup (Client c) = ⊤
IsTriedIn setup Begin = ⊤
IsTriedIn setup (Tell s) = ⊤
IsTriedIn setup Advance = ⊤
IsTriedIn setup (Clone r d) = (r.0 < length setup.shards) × (d.0 < length setup.shards)
IsTriedIn setup (Fetch r d) = (r.0 < length setup.shards) × (d.0 < length setup.shards)
IsTriedIn setup (Cut r d) = (r.0 < length setup.shards) × (d.0 < length setup.shards)
IsTriedIn setup (Apply r d l) = ⊤
IsTriedIn setup (Record r d) = (r.0 < length setup.shards) × (d.0 < length setup.shards)
IsTriedIn setup (Report r) = ⊤
IsTriedIn setup other = ⊥

-- a lane is as it was for a donor
abbrev pub SameLane : ℕ → ℕ → ℕ → Cluster → Cluster → Type 0
SameLane r d l one other = ((lane_in other r l).started ≡ (lane_in one r l).started)
    × (number_of (lane_in other r l).at d ≡ number_of (lane_in one r l).at d)

-- only one lane may have moved, and only for one donor
abbrev pub MovesOne : ℕ → ℕ → ℕ → Cluster → Cluster → Type 0
MovesOne r d l one other = (i j k : ℕ) → (i ≡ r → j ≡ d → k ≡ l → ⊥) → SameLane i j k one other

-- neither a shard nor a lane has changed
abbrev pub SameRest : Cluster → Cluster → Type 0
SameRest one other = (other.shards ≡ one.shards) × (other.lanes ≡ one.lanes)

-- what an event says that took nothing
abbrev pub Says : Event → Cluster → Cluster → Type 0
Says (Clone r d) one other = SameRest one other × (clone.may one r.0 d.0 ≡ false)
Says (Fetch r d) one other = SameRest one other × ((fetch.may one r.0 d.0 ≡ false) ⊎ FetchesNothing one r.0 d.0)
Says (Cut r d) one other = SameRest one other × (cut.may one r.0 d.0 ≡ false)
Says (Apply r d l) one other = (other.shards ≡ one.shards) × MovesOne r.0 d.0 l one other
Says (Record r d) one other = SameRest one other × (keep.may one r.0 d.0 ≡ false)
Says (Report r) one other = report.may one r.0 ≡ false
Says Advance one other = may_advance one.control ≡ false
Says other one now = ⊤

pub record Rests (one other : Cluster) (event : Event) : Type 0 where
  pub control : other.control ≡ one.control
  pub links : other.links ≡ one.links
  pub says : Says event one other

-- where nothing is made
never_made : (setup : Setup) (event : Event) (cluster : Cluster) → may_step setup cluster event ≡ false → Says event cluster cluster
unfolding may
never_made setup (Clone r d) cluster never = ((refl, refl), never)
never_made setup (Fetch r d) cluster never = ((refl, refl), inl never)
never_made setup (Cut r d) cluster never = ((refl, refl), never)
never_made setup (Apply r d l) cluster never = (refl, λ i j k other. (refl, refl))
never_made setup (Record r d) cluster never = ((refl, refl), never)
never_made setup (Report r) cluster never = never
never_made setup Advance cluster never = never
never_made setup other cluster never = tt

-- the lanes after an apply
set_elsewhere : {X : Type 0} (xs : List X) (i j : ℕ) (y d : X) → (j ≡ i → ⊥) → slice_index_or (slice_set xs i y) j d ≡ slice_index_or xs j d
set_elsewhere [] i j y d other = refl
set_elsewhere (x ∷ xs) zero zero y d other = absurd (other refl)
set_elsewhere (x ∷ xs) zero (suc j) y d other = refl
set_elsewhere (x ∷ xs) (suc i) zero y d other = refl
set_elsewhere (x ∷ xs) (suc i) (suc j) y d other = set_elsewhere xs i j y d (λ e. other (ap suc e))

equal : (a b : ℕ) → nat_eq a b ≡ true → a ≡ b
equal a b e = grind (arith, nat_tests)

unequal : (a b : ℕ) → nat_eq a b ≡ false → a ≡ b → ⊥
unequal a b e same = grind (arith, nat_tests)

module _ (rows : List (List LaneOf)) (r d l : ℕ) (piece : Piece) (is : piece.donor.0 ≡ d) where
  abbrev lane : LaneOf
  lane = slice_index_or (slice_index_or rows r []) l no_lane

  abbrev next : List (List LaneOf)
  next = set_in rows r l (taken piece lane)

  abbrev at_in : List (List LaneOf) → ℕ → ℕ → ℕ → ℕ
  at_in lanes i j k = number_of (slice_index_or (slice_index_or lanes i []) k no_lane).at j

  starts_same : (i k : ℕ) → (slice_index_or (slice_index_or next i []) k no_lane).started
      ≡ (slice_index_or (slice_index_or rows i []) k no_lane).started
  starts_same i k =
      set_alike (λ (row : List LaneOf). (slice_index_or row k no_lane).started) rows r i
      (slice_set (slice_index_or rows r []) l (taken piece lane)) []
      (set_alike (λ (x : LaneOf). x.started) (slice_index_or rows r []) l k (taken piece lane) no_lane refl)

  other_donor : (i j k : ℕ) → (j ≡ d → ⊥) → at_in next i j k ≡ at_in rows i j k
  other_donor i j k other =
      set_alike (λ (row : List LaneOf). number_of (slice_index_or row k no_lane).at j) rows r i
      (slice_set (slice_index_or rows r []) l (taken piece lane)) []
      (set_alike (λ (x : LaneOf). number_of x.at j) (slice_index_or rows r []) l k (taken piece lane) no_lane
      (set_elsewhere lane.at piece.donor.0 j (number_of lane.at piece.donor.0 + 1) 0 (λ e. other (e ∙ is))))

  other_row : (i j k : ℕ) → (i ≡ r → ⊥) → at_in next i j k ≡ at_in rows i j k
  other_row i j k other =
      ap (λ (row : List LaneOf). number_of (slice_index_or row k no_lane).at j)
      (set_elsewhere rows r i (slice_set (slice_index_or rows r []) l (taken piece lane)) [] other)

  other_lane : (i j k : ℕ) → (k ≡ l → ⊥) → at_in next i j k ≡ at_in rows i j k
  other_lane i j k other =
      set_alike (λ (row : List LaneOf). number_of (slice_index_or row k no_lane).at j) rows r i
      (slice_set (slice_index_or rows r []) l (taken piece lane)) []
      (ap (λ (x : LaneOf). number_of x.at j) (set_elsewhere (slice_index_or rows r []) l k (taken piece lane) no_lane other))

  moves_at : (i j k : ℕ) → (i ≡ r → j ≡ d → k ≡ l → ⊥) → at_in next i j k ≡ at_in rows i j k
  moves_at i j k apart = by (nat_eq i r) (nat_eq j d) (nat_eq k l) refl refl refl
    where
      by : (s t u : Bool) → nat_eq i r ≡ s → nat_eq j d ≡ t → nat_eq k l ≡ u → at_in next i j k ≡ at_in rows i j k
      by false t u e f g = other_row i j k (unequal i r e)
      by true false u e f g = other_donor i j k (unequal j d f)
      by true true false e f g = other_lane i j k (unequal k l g)
      by true true true e f g = absurd (apart (equal i r e) (equal j d f) (equal k l g))

moves_by : (one other : Cluster) (r d l : ℕ) (piece : Piece) → piece.donor.0 ≡ d
    → other.lanes ≡ set_in one.lanes r l (taken piece (lane_in one r l)) → MovesOne r d l one other
moves_by one other r d l piece is lanes i j k apart = (
  ap (λ (rows : List (List LaneOf)). (slice_index_or (slice_index_or rows i []) k no_lane).started) lanes
      ∙ starts_same one.lanes r d l piece is i k,
  ap (λ (rows : List (List LaneOf)). number_of (slice_index_or (slice_index_or rows i []) k no_lane).at j) lanes
      ∙ moves_at one.lanes r d l piece is i j k apart,
)

given_donor : (lane : LaneOf) (d : ℕ) (piece : Piece) → (is_given lane d piece && is_at lane piece) ≡ true → piece.donor.0 ≡ d
given_donor lane d piece h =
    equal piece.donor.0 d (both lane.started (piece.donor.0 == d) (both (is_given lane d piece) (is_at lane piece) h).0).1

apply_moves : (one other : Cluster) (r d l : ℕ) (piece : Option Piece) → apply.may one r d l piece ≡ true
    → other.lanes ≡ (apply.change one r d l piece).lanes → MovesOne r d l one other
apply_moves one other r d l None h lanes = cc
apply_moves one other r d l (Some piece) h lanes =
    moves_by one other r d l piece (given_donor (lane_in one r l) d piece h) lanes

-- no row of a client changes a link
did_links : (stamp : Stamp) (doing : Doing) (cluster : Cluster) → (client.did stamp doing cluster).links ≡ cluster.links
did_links stamp (adds s d) cluster = refl
did_links stamp (replaces s d t e) cluster = by (t == s)
  where
    by : (is : Bool) → (cond is (client.done_at stamp s (replaces s d t e) cluster) (client.moved stamp s d t e cluster)).links
        ≡ cluster.links
    by true = refl
    by false = refl
did_links stamp (removes s d) cluster = refl
did_links stamp (says reply) cluster = refl

client_links : (setup : Setup) (cluster : Cluster) (stamp : Stamp) (c : ℕ) → (client.change setup cluster stamp c).links ≡ cluster.links
client_links setup cluster stamp c = by (next_command setup cluster c)
  where
    answered : (command : Command) (t : Bool)
        → (cond t (client.abort_asked c cluster) (client.done setup cluster stamp c (doing_of setup cluster c command))).links ≡ cluster.links
    answered command true = refl
    answered command false = did_links stamp (doing_of setup cluster c command) cluster

    come : (command : Command) (x : Coming) → (client.change_by setup cluster stamp c command x).links ≡ cluster.links
    come command waits = refl
    come command refreshes = refl
    come command comes = answered command (is_abort command)

    by : (next : Option Command) → (client.change_of setup cluster stamp c next).links ≡ cluster.links
    by None = refl
    by (Some command) = come command (coming setup cluster c command)

-- less supply is less of all
supply_falls : (setup : Setup) (run other : Run) → IsRunning setup other.cluster → supply setup other < supply setup run
    → left_in setup other < left_in setup run
supply_falls setup run other is lt =
    first_less (supply setup run) (supply setup other) (2 * length setup.shards + 1) (marks_left run.cluster.control)
    (marks_left other.cluster.control) lt
    (marks_small other.cluster.control (length setup.shards) is.manned.told is.manned.reported)
  where
    ranged : (t k x : ℕ) → suc t * k ≤ x → t * k + k ≤ x
    ranged t k x q = grind (arith, q)

    sum : (a b k m n : ℕ) → a + k ≤ b → n < k → a + n < b + m
    sum a b k m n h lt = omega arith

    first_less : (s t k m n : ℕ) → t < s → n < k → t * k + n < s * k + m
    first_less s t k m n lt small =
        let scaled : suc t * k ≤ s * k = mul-le-mul_right k lt in
        sum (t * k) (s * k) k m n (ranged t k (s * k) scaled) small

-- a report that is made is another mark
report_marks : (setup : Setup) (run : Run) (r : ShardId) → may_step setup run.cluster (Report r) ≡ true
    → marks_left (after setup run (first_moment setup run (Report r) Row)).cluster.control < marks_left run.cluster.control
unfolding after change may
report_marks setup run r goes =
    let c : Control = run.cluster.control in
    let first = both (may_report c r.0) (report.are_ready c.phase _) goes in
    let second = both (takes_reports c.phase) (nat_lt r.0 (length c.reported) && not (is_true_at c.reported r.0)) first.0 in
    let third = both (nat_lt r.0 (length c.reported)) (not (is_true_at c.reported r.0)) second.1 in
    report_less r.0 (report.clash_in c.phase (lanes_of run.cluster r.0)) c (below r.0 (length c.reported) third.0)
    (not_true (is_true_at c.reported r.0) third.1)
  where
    below : (a b : ℕ) → nat_lt a b ≡ true → a < b
    below a b e = grind (arith, nat_tests)

    not_true : (t : Bool) → not t ≡ true → t ≡ false
    not_true true e = cc
    not_true false e = refl

never_less : (n m : ℕ) → n ≡ m → n < m → ⊥
never_less n m e lt = omega arith

never_both : (t : Bool) → t ≡ true → t ≡ false → ⊥
never_both true h e = cc
never_both false h e = cc

-- a quiet event isn't made
begin_may : (setup : Setup) (cluster : Cluster) → may_step setup cluster Begin ≡ begins cluster.control.phase
unfolding may
begin_may setup cluster = refl

tell_may : (setup : Setup) (cluster : Cluster) (s : ShardId)
    → may_step setup cluster (Tell s) ≡ (may_tell cluster.control s.0 && not (is_true_at cluster.control.told s.0))
unfolding may
tell_may setup cluster s = refl

advance_may : (setup : Setup) (cluster : Cluster) → may_step setup cluster Advance ≡ may_advance cluster.control
unfolding may
advance_may setup cluster = refl

apply_may : (setup : Setup) (cluster : Cluster) (r d : ShardId) (l : ℕ)
    → may_step setup cluster (Apply r d l) ≡ apply.may cluster r.0 d.0 l (piece_for cluster (Apply r d l))
unfolding may
apply_may setup cluster r d l = refl

client_keeps : (setup : Setup) (run : Run) (c : ℕ)
    → (after setup run (first_moment setup run (Client c) Row)).cluster.links ≡ run.cluster.links
unfolding after change
client_keeps setup run c = client_links setup run.cluster (first_moment setup run (Client c) Row).made.stamp c

fetch_keeps : (setup : Setup) (run : Run) (r d : ShardId)
    → SameRest run.cluster (after setup run (first_moment setup run (Fetch r d) Row)).cluster
unfolding after change
fetch_keeps setup run r d = (refl, refl)

apply_shards : (setup : Setup) (run : Run) (r d : ShardId) (l : ℕ) (piece : Option Piece)
    → ((apply.change run.cluster r.0 d.0 l piece).shards ≡ run.cluster.shards) × ((apply.change run.cluster r.0 d.0 l piece).links ≡ run.cluster.links)
apply_shards setup run r d l None = (refl, refl)
apply_shards setup run r d l (Some piece) = (refl, refl)

record ApplyKeeps (setup : Setup) (run : Run) (r d : ShardId) (l : ℕ) (other : Cluster) : Type 0 where
  shards : other.shards ≡ run.cluster.shards
  links : other.links ≡ run.cluster.links
  lanes : other.lanes ≡ (apply.change run.cluster r.0 d.0 l (piece_for run.cluster (Apply r d l))).lanes

apply_keeps : (setup : Setup) (run : Run) (r d : ShardId) (l : ℕ)
    → ApplyKeeps setup run r d l (after setup run (first_moment setup run (Apply r d l) Row)).cluster
unfolding after change
apply_keeps setup run r d l =
    let same = apply_shards setup run r d l (piece_for run.cluster (Apply r d l)) in
    record { shards = same.0; links = same.1; lanes = refl }

module _ (laws : EveryScheduleKeeps) (leading : StaysLeading) (few : FeedsAreFew) (setup : Setup) (valid : IsValid setup) where
  -- a row that leaves the coordinator as it is, in a phase in which links have work
  abbrev made : Run → Event → Run
  made run event = after setup run (first_moment setup run event Row)

  abbrev RowRests : Run → Event → Type 0
  RowRests run event = (work_left setup (made run event).cluster < work_left setup run.cluster)
      ⊎ (((made run event).cluster.links ≡ run.cluster.links) × Says event run.cluster (made run event).cluster)

  row_rests : (run : Run) (event : Event) → IsLed setup run.cluster → IsLed setup (made run event).cluster → IsTriedIn setup event
      → may_step setup run.cluster event ≡ true → (made run event).cluster.control ≡ run.cluster.control
      → IsQuiet setup event run.cluster → has_work (made run event).cluster.control.phase ≡ true → RowRests run event
  row_rests run (Client c) before behind tried goes same quiet works = inr (client_keeps setup run c, tt)
  row_rests run Begin before behind tried goes same quiet works =
      absurd (never_both (may_step setup run.cluster Begin) goes (begin_may setup run.cluster ∙ quiet))
  row_rests run (Tell s) before behind tried goes same quiet works =
      absurd (never_both (may_step setup run.cluster (Tell s)) goes (tell_may setup run.cluster s ∙ quiet))
  row_rests run Advance before behind tried goes same quiet works =
      absurd (never_both (may_step setup run.cluster Advance) goes (advance_may setup run.cluster ∙ quiet))
  row_rests run (Clone r d) before behind tried goes same quiet works =
      inl (clone_pays few setup valid run before r d tried.0 tried.1 behind works goes)
  row_rests run (Fetch r d) before behind tried goes same quiet works =
      by (fetch_pays few setup valid run before r d tried.0 tried.1 behind works goes)
    where
      by : (work_left setup (made run (Fetch r d)).cluster < work_left setup run.cluster)
          ⊎ (((made run (Fetch r d)).cluster.links ≡ run.cluster.links) × FetchesNothing run.cluster r.0 d.0)
          → RowRests run (Fetch r d)
      by (inl lt) = inl lt
      by (inr e) = inr (e.0, (fetch_keeps setup run r d, inr e.1))
  row_rests run (Cut r d) before behind tried goes same quiet works =
      inl (cut_pays few setup valid run before r d tried.0 tried.1 goes)
  row_rests run (Apply r d l) before behind tried goes same quiet works =
      let keeps : ApplyKeeps setup run r d l (made run (Apply r d l)).cluster = apply_keeps setup run r d l in
      inr (
        keeps.links,
        (
          keeps.shards,
          apply_moves run.cluster (made run (Apply r d l)).cluster r.0 d.0 l (piece_for run.cluster (Apply r d l))
              (sym (apply_may setup run.cluster r d l) ∙ goes) keeps.lanes,
        ),
      )
  row_rests run (Record r d) before behind tried goes same quiet works =
      inl (keep_pays few setup valid run before r d tried.0 tried.1 goes)
  row_rests run (Report r) before behind tried goes same quiet works =
      absurd (never_less (marks_left (made run (Report r)).cluster.control) (marks_left run.cluster.control)
      (ap (λ (c : Control). marks_left c) same) (report_marks setup run r goes))
  row_rests run (Retell s message) before behind tried goes same quiet works = absurd tried
  row_rests run (Again r d l position) before behind tried goes same quiet works = absurd tried
  row_rests run (Crash r d) before behind tried goes same quiet works = absurd tried
  row_rests run (Fail named cause) before behind tried goes same quiet works = absurd tried

  -- a step takes of what is left, or leaves as much; and where it takes nothing of it while links have work, it rests
  abbrev Goes : Run → Run → Event → Type 0
  Goes run last event = (rounds_left setup last < rounds_left setup run)
      ⊎ ((rounds_left setup last ≤ rounds_left setup run)
      × (has_work run.cluster.control.phase ≡ true → Rests run.cluster last.cluster event))

  pub record StepEnds (run last : Run) (event : Event) : Type 0 where
    pub sweeping : IsSweeping setup last
    pub most : rounds_left setup last ≤ rounds_left setup run
    pub rests : has_work run.cluster.control.phase ≡ true → rounds_left setup run ≤ rounds_left setup last
        → Rests run.cluster last.cluster event

  step_ends_by : (run last : Run) (event : Event) → IsSweeping setup last → Goes run last event → StepEnds run last event
  step_ends_by run last event is (inl lt) = record {
    sweeping = is;
    most = less (rounds_left setup last) (rounds_left setup run) lt;
    rests = λ works even. absurd (not_less (rounds_left setup last) (rounds_left setup run) lt even);
  }
    where
      less : (a b : ℕ) → a < b → a ≤ b
      less a b lt = omega arith

      not_less : (a b : ℕ) → a < b → b ≤ a → ⊥
      not_less a b lt le = omega arith
  step_ends_by run last event is (inr h) = record { sweeping = is; most = h.0; rests = λ works even. h.1 works }

  tried_alive : (cluster : Cluster) (event : Event) → IsTriedIn setup event
      → ((r d : ℕ) → (link_in cluster r d).link.failed ≡ false) → IsTried cluster event
  tried_alive cluster (Client c) tried alive = tt
  tried_alive cluster Begin tried alive = tt
  tried_alive cluster (Tell s) tried alive = tt
  tried_alive cluster Advance tried alive = tt
  tried_alive cluster (Clone r d) tried alive = alive r.0 d.0
  tried_alive cluster (Fetch r d) tried alive = alive r.0 d.0
  tried_alive cluster (Cut r d) tried alive = alive r.0 d.0
  tried_alive cluster (Apply r d l) tried alive = alive r.0 d.0
  tried_alive cluster (Record r d) tried alive = alive r.0 d.0
  tried_alive cluster (Report r) tried alive = tt
  tried_alive cluster (Retell s message) tried alive = absurd tried
  tried_alive cluster (Again r d l position) tried alive = absurd tried
  tried_alive cluster (Crash r d) tried alive = absurd tried
  tried_alive cluster (Fail named cause) tried alive = absurd tried

  no_more_work : (one other : Cluster) → other.links ≡ one.links → work_left setup other ≤ work_left setup one
  no_more_work one other links =
      below_same (work_left setup other) (work_left setup one)
      (ap (λ (rows : List (List LinkCell)). upto (length setup.shards) (λ r. upto (length setup.shards)
      (λ d. work (most_items setup) (slice_index_or (slice_index_or rows r []) d no_link).link))) links)
    where
      below_same : (a b : ℕ) → a ≡ b → a ≤ b
      below_same a b e = omega arith

  falls : (run last : Run) (event : Event) → IsSweeping setup last → left_in setup last < left_in setup run → Goes run last event
  falls run last event is lt = inl (left_falls few setup run last (led setup last is) lt)

  -- no link has work
  idle_goes : (run last : Run) (event : Event) → IsSweeping setup last → has_work run.cluster.control.phase ≡ false
      → StepWent setup run last event → Goes run last event
  idle_goes run last event is idle went = by went.moves
    where
      never : {X : Type 0} → has_work run.cluster.control.phase ≡ true → X
      never works = absurd (never_both (has_work run.cluster.control.phase) works idle)

      by : Falls setup run last ⊎ (Same run last × IsQuiet setup event run.cluster) → Goes run last event
      by (inl lt) = falls run last event is lt
      by (inr e) = inr (work_stays setup run last e.0.0 went.went.most (λ works. never works), λ works. never works)

  -- a row, where links have work
  row_goes : (run : Run) (event : Event) → IsSweeping setup run → IsSweeping setup (made run event) → IsTriedIn setup event
      → has_work run.cluster.control.phase ≡ true → may_step setup run.cluster event ≡ true
      → StepWent setup run (made run event) event → Goes run (made run event) event
  row_goes run event is to tried works goes went = by went.moves
    where
      last : Run
      last = made run event

      after_row : Same run last → RowRests run event → Goes run last event
      after_row same (inl lt) = inl (work_falls setup run last same.0 went.went.most works lt)
      after_row same (inr e) =
          inr (
            work_stays setup run last same.0 went.went.most (λ w. no_more_work run.cluster last.cluster e.0),
            λ w. record { control = same.0; links = e.0; says = e.1 },
          )

      by : Falls setup run last ⊎ (Same run last × IsQuiet setup event run.cluster) → Goes run last event
      by (inl lt) = falls run last event to lt
      by (inr e) =
          after_row e.0 (row_rests run event (led setup run is) (led setup last to) tried goes e.0.0 e.1
          (subst (λ (c : Control). has_work c.phase ≡ true) (sym e.0.0) works))

  one_made : (run : Run) (event : Event) (moments : List Moment) → moments ≡ first_moment setup run event Row ∷ []
      → after_all setup run moments ≡ made run event
  unfolding after_all
  one_made run event moments is = ap (λ (ms : List Moment). after_all setup run ms) is

  none_made : (run : Run) (event : Event) (moments : List Moment) (lines : List Line) → may_step setup run.cluster event ≡ true
      → IsStep setup run event moments lines → moments ≡ [] → ⊥
  none_made run event moments lines goes (idles never nothing shows) none = never_both (may_step setup run.cluster event) goes never
  none_made run event moments lines goes (makes met may given is schedule shows) none =
      let e : moments_of setup run event met ≡ [] = sym is ∙ none in cc

  -- a step that is made, where links have work
  made_goes : (run : Run) (event : Event) (moments : List Moment) (lines : List Line) → IsSweeping setup run → IsTriedIn setup event
      → has_work run.cluster.control.phase ≡ true → may_step setup run.cluster event ≡ true
      → IsStep setup run event moments lines → IsSweeping setup (after_all setup run moments)
      → StepWent setup run (after_all setup run moments) event → Goes run (after_all setup run moments) event
  made_goes run event moments lines is tried works goes step to went =
      by (steps_pay setup run event moments is.shaped is.running.manned.clients is.paid
      (tried_alive run.cluster event tried (λ r d. is.leads.alive r d (undecided_in few setup run.cluster (led setup run is) works)))
      (lines, step))
    where
      by : Pays setup run event moments → Goes run (after_all setup run moments) event
      by (inl lt) =
          falls run (after_all setup run moments) event to (supply_falls setup run (after_all setup run moments) to.running lt)
      by (inr (inl none)) = absurd (none_made run event moments lines goes step none)
      by (inr (inr row)) =
          let last : after_all setup run moments ≡ made run event = one_made run event moments row in
          subst (λ (other : Run). Goes run other event) (sym last)
          (row_goes run event is (subst (λ (other : Run). IsSweeping setup other) last to) tried works goes
          (subst (λ (other : Run). StepWent setup run other event) last went))

  nothing_goes : (run : Run) (event : Event) → may_step setup run.cluster event ≡ false → Goes run run event
  nothing_goes run event never =
      inr (alike (rounds_left setup run), λ works. record { control = refl; links = refl; says = never_made setup event run.cluster never })
    where
      alike : (n : ℕ) → n ≤ n
      alike n = omega arith

  none_after : (run : Run) (moments : List Moment) → moments ≡ [] → after_all setup run moments ≡ run
  unfolding after_all
  none_after run moments is = ap (λ (ms : List Moment). after_all setup run ms) is

  step_goes : (run : Run) (event : Event) (moments : List Moment) (lines : List Line) → IsSweeping setup run → IsTriedIn setup event
      → IsStep setup run event moments lines → IsSweeping setup (after_all setup run moments)
      → StepWent setup run (after_all setup run moments) event → Goes run (after_all setup run moments) event
  step_goes run event moments lines is tried (idles never nothing shows) to went =
      subst (λ (other : Run). Goes run other event) (sym (none_after run moments nothing)) (nothing_goes run event never)
  step_goes run event moments lines is tried (makes met goes given equal schedule shows) to went =
      by (has_work run.cluster.control.phase) refl
    where
      by : (t : Bool) → has_work run.cluster.control.phase ≡ t → Goes run (after_all setup run moments) event
      by true works =
          made_goes run event moments lines is tried works goes (makes met goes given equal schedule shows) to went
      by false idle = idle_goes run (after_all setup run moments) event to idle went

  pub step_ends : (run : Run) (event : Event) (moments : List Moment) → IsSweeping setup run → IsTriedIn setup event
      → Makes setup run event moments → StepEnds run (after_all setup run moments) event
  step_ends run event moments is tried (lines, step) =
      let to : IsSweeping setup (after_all setup run moments) = sweeping_stays laws leading setup valid run event moments lines is step in
      step_ends_by run (after_all setup run moments) event to
      (step_goes run event moments lines is tried step to (step_went setup run event moments lines valid is.running step))
