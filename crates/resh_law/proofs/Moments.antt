-- An event that may be made keeps the invariant with its turns, whatever it met.
use Rattle.std.proofs.Common.{◌≡◌, ◌++◌, ℕ, Bool, true, false, cond, List, Option, Some, None, refl, sym, ap, subst}
use Rattle.resh_oplog.specs.declared.piece.Piece.{Piece}
use Rattle.resh_stamp.specs.declared.stamp.Stamp.{Stamp}
use Rattle.resh_cells.specs.Cells.{lane_in}
use Rattle.resh_cells.specs.Clocks.{first_number, lane_cells, link_cells, with_clocks}
use Rattle.resh_cells.specs.declared.cell.Cell.{Cell}
use Rattle.resh_cells.specs.declared.cluster.Cluster.{Cluster}
use Rattle.resh_client_rows.specs.Laws.{ClientRowsKeep, IsKept, KeepsTurns}
use Rattle.resh_events.specs.Bounds.{is_bounded}
use Rattle.resh_events.specs.Luck as luck
use Rattle.resh_events.specs.Luck.{asks, may_meet}
use Rattle.resh_events.specs.Runs.{Moment, Run, after}
use Rattle.resh_events.specs.Schedules.{Delivers, Stands}
use Rattle.resh_events.specs.Table.{change, holds, may}
use Rattle.resh_events.specs.Turns.{event_turns, mark_of, turns_of}
use Rattle.resh_events.specs.rows.Again as again
use Rattle.resh_events.specs.rows.Apply as apply
use Rattle.resh_events.specs.rows.Apply.{is_at}
use Rattle.resh_model.specs.Orders.{State}
use Rattle.resh_setup.specs.Validity.{IsValid}
use Rattle.resh_setup.specs.declared.event.Event.{Event}
use Rattle.resh_setup.specs.declared.event.Event.TheVariants.{Client, Begin, Tell, Retell, Advance, Clone, Fetch, Cut, Apply, Again, Record, Crash, Report, Fail}
use Rattle.resh_setup.specs.declared.setup.Setup.{Setup}
use Rattle.resh_setup.specs.declared.trace.Met.{Met}
use Rattle.resh_setup.specs.declared.trace.Met.TheVariants.{Row, CrashedBefore, CrashedAfter, Failed, Lost, NoMemory, NoMemoryInMove}
use Rattle.resh_invariant.specs.Frames.{KeepsByCell}
use Rattle.resh_invariant.specs.Keeping.{Keeps}
use Rattle.resh_invariant.specs.Sources.{Clones}
use Rattle.resh_invariant.proofs.Ones.{never}
use Rattle.resh_link_rows.specs.Laws.{LinkRowsKeep}
use Rattle.resh_lane_rows.specs.Laws.{LaneRowsKeep}
use Rattle.resh_control_rows.specs.Laws.{ControlRowsKeep}
use Rattle.resh_mark_rows.specs.Laws.{MarkRowsKeep}
use Rattle.resh_tell_rows.specs.Laws.{TellRowsKeep}
use Rattle.resh_law.proofs.Advancing.{advance_keeps, begin_keeps}
use Rattle.resh_law.proofs.Clients.{ask_keeps, refuse_keeps}
use Rattle.resh_law.proofs.Clocks.{AreBefore, held_before, later, set_to}
use Rattle.resh_law.proofs.Counting.{counted_keeps}
use Rattle.resh_law.proofs.Failing.{fail_keeps}
use Rattle.resh_law.proofs.Marking.{KeepsMark, keeps_unmarked}
use Rattle.resh_law.proofs.Telling.{tell_keeps}

-- the laws of all rows
pub record AllRowsKeep : Type 0 where
  pub cells : KeepsByCell
  pub link : LinkRowsKeep
  pub lane : LaneRowsKeep
  pub control : ControlRowsKeep
  pub mark : MarkRowsKeep
  pub tell : TellRowsKeep
  pub client : ClientRowsKeep

-- a lane's rows change the lane alone
module _ (time : ℕ) (cells : List Cell) (cluster : Cluster) (r d l : ℕ) where
  apply_set : (piece : Option Piece) → apply.change (with_clocks time cells cluster) r d l piece
      ≡ with_clocks time cells (apply.change cluster r d l piece)
  apply_set None = refl
  apply_set (Some piece) = refl

  apply_decides : (piece : Option Piece) → (apply.change cluster r d l piece).control.decision ≡ cluster.control.decision
  apply_decides None = refl
  apply_decides (Some piece) = refl

  again_set : (piece : Option Piece) → again.change (with_clocks time cells cluster) r d l piece
      ≡ with_clocks time cells (again.change cluster r d l piece)
  again_set None = refl
  again_set (Some piece) = by (is_at (lane_in cluster r l) piece)
    where
      by : (t : Bool)
          → cond t (apply.change (with_clocks time cells cluster) r d l (Some piece)) (with_clocks time cells cluster)
          ≡ with_clocks time cells (cond t (apply.change cluster r d l (Some piece)) cluster)
      by true = refl
      by false = refl

  again_decides : (piece : Option Piece) → (again.change cluster r d l piece).control.decision ≡ cluster.control.decision
  again_decides None = refl
  again_decides (Some piece) = by (is_at (lane_in cluster r l) piece)
    where
      by : (t : Bool) → (cond t (apply.change cluster r d l (Some piece)) cluster).control.decision ≡ cluster.control.decision
      by true = refl
      by false = refl

module _ (rows : AllRowsKeep) (setup : Setup) (valid : IsValid setup) (state : State) (clones : Clones) (cluster : Cluster)
    (keeps : Keeps setup state clones cluster) (stamp : Stamp) where
  waits : (cells : List Cell) → AreBefore stamp.time cluster.clocks cells
      → Keeps setup state clones (with_clocks stamp.time cells cluster)
  waits cells before =
      rows.cells.waits setup state clones cluster (set_to stamp.time cluster.clocks cells) keeps
      (later stamp.time cluster.clocks cells before)

  -- the row is made
  abbrev KeepsRow : Event → Option Piece → Type 0
  KeepsRow event piece = KeepsTurns setup state
      (event_turns setup cluster event Row ++ mark_of cluster.control.decision (change setup stamp cluster event piece).control.decision)
      (with_clocks stamp.time (holds setup cluster event) (change setup stamp cluster event piece))

  -- its clocks are set first
  abbrev waiting : Event → Cluster
  waiting event = with_clocks stamp.time (holds setup cluster event) cluster

  held_waits : (event : Event) → AreBefore stamp.time cluster.clocks (holds setup cluster event) → Keeps setup state clones (waiting event)
  held_waits event before = waits (holds setup cluster event) before

  row_keeps : (event : Event) (piece : Option Piece) → may setup cluster event piece ≡ true → Delivers cluster event piece
      → is_bounded cluster event ≡ true → AreBefore stamp.time cluster.clocks (holds setup cluster event)
      → stamp.node ≡ first_number setup (holds setup cluster event) → KeepsRow event piece
  unfolding change holds may
  row_keeps (Client c) piece is given bounded before node =
      ask_keeps rows.client setup valid state clones cluster keeps stamp c is before node
  row_keeps Begin piece is given bounded before node =
      begin_keeps rows.control rows.mark setup valid state clones cluster stamp (held_waits Begin before) is
  row_keeps (Tell s) piece is given bounded before node =
      tell_keeps rows.tell setup valid state clones cluster keeps stamp (lane_cells setup s.0 ++ link_cells setup s.0) s.0
      before (held_waits (Tell s) before) node is
  row_keeps (Retell s message) piece is given bounded before node =
      keeps_unmarked setup state cluster.control.decision clones _ refl (held_waits (Retell s message) before)
  row_keeps Advance piece is given bounded before node =
      advance_keeps rows.control rows.mark setup valid state clones cluster stamp (held_waits Advance before) is
  row_keeps (Clone r d) piece is given bounded before node =
      keeps_unmarked setup state cluster.control.decision clones _ refl
      (rows.link.clone setup state clones (waiting (Clone r d)) r.0 d.0 (held_waits (Clone r d) before) is)
  row_keeps (Fetch r d) piece is given bounded before node =
      keeps_unmarked setup state cluster.control.decision clones _ refl
      (rows.link.fetch setup state clones (waiting (Fetch r d)) r.0 d.0 (held_waits (Fetch r d) before) is)
  row_keeps (Cut r d) piece is given bounded before node =
      keeps_unmarked setup state cluster.control.decision clones _ refl
      (rows.link.cut setup state clones (waiting (Cut r d)) r.0 d.0 stamp valid (held_waits (Cut r d) before) is bounded)
  row_keeps (Apply r d l) piece is given bounded before node =
      keeps_unmarked setup state cluster.control.decision clones _
      (apply_decides stamp.time (holds setup cluster (Apply r d l)) cluster r.0 d.0 l piece)
      (subst (λ next. Keeps setup state clones next) (apply_set stamp.time (holds setup cluster (Apply r d l)) cluster r.0 d.0 l piece)
      (rows.lane.apply setup state clones (waiting (Apply r d l)) r.0 d.0 l piece (held_waits (Apply r d l) before) given is))
  row_keeps (Again r d l position) piece is given bounded before node =
      keeps_unmarked setup state cluster.control.decision clones _
      (again_decides stamp.time (holds setup cluster (Again r d l position)) cluster r.0 d.0 l piece)
      (subst (λ next. Keeps setup state clones next) (again_set stamp.time (holds setup cluster (Again r d l position)) cluster r.0 d.0 l piece)
      (rows.lane.again setup state clones (waiting (Again r d l position)) r.0 d.0 l position piece (held_waits (Again r d l position) before) given is))
  row_keeps (Record r d) piece is given bounded before node =
      keeps_unmarked setup state cluster.control.decision clones _ refl
      (rows.link.record_kept setup state clones (waiting (Record r d)) r.0 d.0 (held_waits (Record r d) before) is)
  row_keeps (Crash r d) piece is given bounded before node =
      keeps_unmarked setup state cluster.control.decision clones _ refl
      (rows.lane.crash setup state clones (waiting (Crash r d)) r.0 d.0 (held_waits (Crash r d) before) is)
  row_keeps (Report r) piece is given bounded before node =
      keeps_unmarked setup state cluster.control.decision clones _ refl
      (rows.control.report setup state clones (waiting (Report r)) r.0 (held_waits (Report r) before) is)
  row_keeps (Fail named cause) piece is given bounded before node =
      fail_keeps rows.control setup state clones cluster stamp.time (holds setup cluster (Fail named cause)) (held_waits (Fail named cause) before) named cause is

  -- nothing but clocks
  idle_keeps : (cells : List Cell) → AreBefore stamp.time cluster.clocks cells
      → KeepsMark setup state cluster.control.decision (with_clocks stamp.time cells cluster)
  idle_keeps cells before =
      keeps_unmarked setup state cluster.control.decision clones (with_clocks stamp.time cells cluster) refl (waits cells before)

  abbrev KeepsMet : Event → Option Piece → Met → Type 0
  KeepsMet event piece met = KeepsTurns setup state
      (event_turns setup cluster event met
      ++ mark_of cluster.control.decision (luck.change setup stamp cluster event piece met).control.decision)
      (with_clocks stamp.time (luck.holds setup cluster event met) (luck.change setup stamp cluster event piece met))

  -- what it met
  before_keeps : (event : Event) (piece : Option Piece) → AreBefore stamp.time cluster.clocks (holds setup cluster event) → KeepsMet event piece CrashedBefore
  before_keeps (Client c) piece before =
      counted_keeps setup state cluster.control.decision stamp.time (holds setup cluster (Client c)) (asks cluster (Client c) piece)
      cluster (idle_keeps (holds setup cluster (Client c)) before)
  before_keeps other piece before =
      counted_keeps setup state cluster.control.decision stamp.time (holds setup cluster other) (asks cluster other piece)
      cluster (idle_keeps (holds setup cluster other) before)

  after_keeps : (event : Event) (piece : Option Piece) → may_meet setup cluster event piece CrashedAfter ≡ true → KeepsRow event piece
      → KeepsMet event piece CrashedAfter
  after_keeps (Client c) piece meets kept = never (sym meets)
  after_keeps other piece meets kept =
      counted_keeps setup state cluster.control.decision stamp.time (holds setup cluster other) (asks cluster other piece)
      (change setup stamp cluster other piece) kept

  failed_keeps : (event : Event) (piece : Option Piece) → AreBefore stamp.time cluster.clocks (holds setup cluster event) → KeepsMet event piece Failed
  failed_keeps (Client c) piece before = idle_keeps (holds setup cluster (Client c)) before
  failed_keeps other piece before = idle_keeps (holds setup cluster other) before

  lost_keeps : (event : Event) (piece : Option Piece) → AreBefore stamp.time cluster.clocks (holds setup cluster event) → KeepsMet event piece Lost
  lost_keeps (Client c) piece before = idle_keeps (holds setup cluster (Client c)) before
  lost_keeps other piece before = idle_keeps (holds setup cluster other) before

  wanting_keeps : (event : Event) (piece : Option Piece) → may setup cluster event piece ≡ true
      → AreBefore stamp.time cluster.clocks (luck.holds setup cluster event NoMemory) → KeepsMet event piece NoMemory
  unfolding may
  wanting_keeps (Client c) piece is before =
      refuse_keeps rows.client setup valid state clones cluster keeps stamp c is (luck.holds setup cluster (Client c) NoMemory)
      (waits (luck.holds setup cluster (Client c) NoMemory) before)
  wanting_keeps other piece is before = idle_keeps (holds setup cluster other) before

  move_keeps : (event : Event) (piece : Option Piece) → may setup cluster event piece ≡ true
      → AreBefore stamp.time cluster.clocks (luck.holds setup cluster event NoMemoryInMove) → KeepsMet event piece NoMemoryInMove
  unfolding may
  move_keeps (Client c) piece is before =
      refuse_keeps rows.client setup valid state clones cluster keeps stamp c is (luck.holds setup cluster (Client c) NoMemoryInMove)
      (waits (luck.holds setup cluster (Client c) NoMemoryInMove) before)
  move_keeps other piece is before = idle_keeps (holds setup cluster other) before

  met_keeps : (event : Event) (piece : Option Piece) (met : Met) → may setup cluster event piece ≡ true
      → may_meet setup cluster event piece met ≡ true → Delivers cluster event piece
      → (luck.acts met ≡ true → is_bounded cluster event ≡ true)
      → AreBefore stamp.time cluster.clocks (luck.holds setup cluster event met)
      → stamp.node ≡ first_number setup (luck.holds setup cluster event met) → KeepsMet event piece met
  met_keeps event piece Row is meets given bounded before node = row_keeps event piece is given (bounded refl) before node
  met_keeps event piece CrashedBefore is meets given bounded before node = before_keeps event piece before
  met_keeps event piece CrashedAfter is meets given bounded before node =
      after_keeps event piece meets (row_keeps event piece is given (bounded refl) before node)
  met_keeps event piece Failed is meets given bounded before node = failed_keeps event piece before
  met_keeps event piece Lost is meets given bounded before node = lost_keeps event piece before
  met_keeps event piece NoMemory is meets given bounded before node = wanting_keeps event piece is before
  met_keeps event piece NoMemoryInMove is meets given bounded before node = move_keeps event piece is before

pub moment_keeps : AllRowsKeep → (setup : Setup) (state : State) (run : Run) (m : Moment) → IsValid setup
    → IsKept setup state run.cluster → Stands setup run m → KeepsTurns setup state (turns_of setup run m) (after setup run m).cluster
unfolding after
moment_keeps rows setup state run m valid kept is =
    met_keeps rows setup valid state kept.0 run.cluster kept.1 m.made.stamp m.made.event m.given.piece m.made.met
    is.may is.meets is.delivers is.bounded (held_before setup run m is) (ap (λ (stamp : Stamp). stamp.node) is.stamp)
