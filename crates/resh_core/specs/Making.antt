-- One event as code makes it: what it asks, what stands in a core's state, and what was made.
use Rattle.std.specs.Prelude.{◌≡◌, ◌<◌, ◌⊎◌, ℕ, Bool, true, false, cond, List, [], ◌∷◌, ◌++◌, Option, None}
use Rattle.std.specs.Option.{option_map_or}
use Rattle.resh_oplog.specs.declared.piece.Piece.{Piece}
use Rattle.resh_stamp.specs.Times.{end_of_time, next_time}
use Rattle.resh_stamp.specs.declared.stamp.Stamp.{Stamp}
use Rattle.resh_coord.specs.Control.{with_crash}
use Rattle.resh_coord.specs.declared.cause.End.{End}
use Rattle.resh_setup.specs.declared.event.Event.{Event}
use Rattle.resh_setup.specs.declared.event.Event.TheVariants as event
use Rattle.resh_setup.specs.declared.plan.Who.TheVariants as who
use Rattle.resh_setup.specs.declared.seen.Seen.{Seen}
use Rattle.resh_setup.specs.declared.seen.Seen.TheVariants as shown
use Rattle.resh_setup.specs.declared.setup.Setup.{Setup}
use Rattle.resh_setup.specs.declared.trace.Made.{Made}
use Rattle.resh_setup.specs.declared.trace.Met.{Met}
use Rattle.resh_setup.specs.declared.trace.Met.TheVariants.{Row, CrashedBefore, CrashedAfter, Failed, Lost}
use Rattle.resh_setup.specs.declared.trace.Met.TheVariants.{NoMemory, NoMemoryInMove}
use Rattle.resh_setup.specs.declared.turn.Turn.{Turn}
use Rattle.resh_setup.specs.declared.turn.Turn.TheVariants as turn
use Rattle.resh_cells.specs.Cells.{on_control}
use Rattle.resh_cells.specs.Clocks.{clocks_of, first_number, with_clocks}
use Rattle.resh_cells.specs.declared.cluster.Cluster.{Cluster}
use Rattle.resh_events.specs.Bounds.{is_bounded}
use Rattle.resh_events.specs.Follows.{follows}
use Rattle.resh_events.specs.Luck.{Asks, quiet, commits, delivers, acts, asks, change, holds, may_meet, seen}
use Rattle.resh_events.specs.Lucks.{Lucks, called}
use Rattle.resh_events.specs.Plans.{IsWant, given_by}
use Rattle.resh_events.specs.Steps.{may_step, piece_for}
use Rattle.resh_events.specs.Table as table
use Rattle.resh_events.specs.Turns.{event_turns, mark_of}
use Rattle.resh_core.specs.Cores.{CoreOf}
use Rattle.resh_core.specs.declared.meeting.Asking.{Asking}
use Rattle.resh_core.specs.declared.meeting.Asking.TheVariants as asking
use Rattle.resh_core.specs.declared.making.Acted.{Acted}
use Rattle.resh_core.specs.declared.making.State.{State}

abbrev pub asks_of : Asking → Asks
asks_of asking.Quiet = quiet
asks_of (asking.Commits w) = commits w
asks_of (asking.Delivers w) = delivers w

abbrev pub core_of : Setup → State → CoreOf
core_of setup state = record { setup = setup; cluster = state.cluster; trace = state.trace; order = state.order }

abbrev pub is_client : Event → Bool
is_client (event.Client c) = true
is_client other = false

-- a crash of the coordinator
abbrev pub is_counted : Asks → Met → Bool
is_counted (commits who.Coordinator) CrashedBefore = true
is_counted (commits who.Coordinator) CrashedAfter = true
is_counted other met = false

abbrev pub may_come_to_commit : Met → Bool
may_come_to_commit Row = true
may_come_to_commit CrashedBefore = true
may_come_to_commit CrashedAfter = true
may_come_to_commit Failed = true
may_come_to_commit other = false

abbrev pub may_come_to_delivery : Met → Bool
may_come_to_delivery Row = true
may_come_to_delivery Lost = true
may_come_to_delivery other = false

-- what luck gives to what is asked: a fate to a commit, a loss to a delivery
abbrev pub IsGiven : Asks → Met → Type 0
IsGiven quiet met = met ≡ Row
IsGiven (commits w) met = may_come_to_commit met ≡ true
IsGiven (delivers w) met = may_come_to_delivery met ≡ true

-- a crash of the coordinator is counted
abbrev pub counted_by : Asks → Met → Cluster → Cluster
counted_by asks met cluster = cond (is_counted asks met) (on_control with_crash cluster) cluster

-- what a step asks of luck
abbrev pub asked : Cluster → Event → Asks
asked cluster e = asks cluster e (piece_for cluster e)

-- the time of the piece that is handed over
abbrev pub time_of : Option Piece → ℕ
time_of piece = option_map_or (λ (p : Piece). p.time) piece 0

abbrev pub made_of : Event → Acted → Made
made_of e a = record { stamp = a.stamp; event = e; met = a.met }

module _ (setup : Setup) where
  -- the stamp of an event that follows one of this time
  abbrev pub stamp_at : Cluster → Event → Met → ℕ → Stamp
  stamp_at cluster e met followed = record {
    time = next_time followed
        (time_of (piece_for cluster e) ∷ clocks_of cluster (holds setup cluster e met));
    node = first_number setup (holds setup cluster e met);
  }

  -- the cluster once the row is made, or not, and before a crash is counted
  abbrev pub uncounted : Stamp → Cluster → Event → Met → Cluster
  uncounted stamp cluster e met =
      cond (acts met) (table.change setup stamp cluster e (piece_for cluster e)) cluster

  -- the row is made, or what luck or want of memory puts in its place
  pub record HasChanged (old : Cluster) (e : Event) (stamp : Stamp) (given met : Met) (new : Cluster) (s : Seen)
      : Type 0 where
    pub meets : may_meet setup old e (piece_for old e) met ≡ true
    pub answers : (met ≡ given) ⊎ IsWant met
    pub bounded : acts met ≡ true → is_bounded old e ≡ true
    pub cluster : new ≡ uncounted stamp old e met
    pub seen : s ≡ seen setup stamp old e (piece_for old e) met

  -- its clocks are set beside
  pub record HasActed (old : Cluster) (e : Event) (followed : ℕ) (given : Met) (new : Cluster) (a : Acted)
      : Type 0 where
    pub stamp : a.stamp ≡ stamp_at old e a.met followed
    pub in_time : a.stamp.time < end_of_time
    pub meets : may_meet setup old e (piece_for old e) a.met ≡ true
    pub answers : (a.met ≡ given) ⊎ IsWant a.met
    pub bounded : acts a.met ≡ true → is_bounded old e ≡ true
    pub cluster : new ≡ with_clocks a.stamp.time (holds setup old e a.met)
        (change setup a.stamp old e (piece_for old e) a.met)
    pub seen : a.seen ≡ seen setup a.stamp old e (piece_for old e) a.met
    pub follower : a.follower ≡ follows new e (asked old e) a.met

  -- it is in the trace, and its turns in the order
  pub record HasKept (old : State) (e : Event) (a : Acted) (new : State) : Type 0 where
    pub trace : new.trace ≡ old.trace ++ made_of e a ∷ []
    pub order : new.order ≡ old.order ++ (event_turns setup old.cluster e a.met
        ++ mark_of old.cluster.control.decision new.cluster.control.decision)

  pub record IsMade (old : State) (before : Lucks) (e : Event) (followed : ℕ) (new : State) (later : Lucks) (a : Acted)
      : Type 0 where
    pub acted : HasActed old.cluster e followed (given_by setup before (asked old.cluster e)) new.cluster a
    pub kept : HasKept old e a new
    pub lucks : later ≡ called setup (asked old.cluster e) before

-- the turn of a client's command, by what it met and showed
abbrev pub turn_shown : ℕ → Met → Seen → List Turn
turn_shown c Row (shown.Command number) = turn.Command c false ∷ []
turn_shown c NoMemory s = turn.Command c true ∷ []
turn_shown c NoMemoryInMove s = turn.Command c true ∷ []
turn_shown c met s = []

-- the turns of an event, by what it met and showed
abbrev pub turns_shown : Event → Met → Seen → List Turn
turns_shown (event.Client c) met s = turn_shown c met s
turns_shown other met s = []

-- the mark, where none stood
abbrev pub mark_by : Bool → Option End → List Turn
mark_by true end = []
mark_by false end = mark_of None end

-- a link's crash and a failure follow other events
abbrev pub may_follow : Event → Bool
may_follow (event.Crash r d) = true
may_follow (event.Fail link cause) = true
may_follow other = false

-- an event that follows one of this time is made as it stands
pub record IsPaid (setup : Setup) (old : State) (before : Lucks) (e : Event) (followed : ℕ) (new : State)
    (later : Lucks) (a : Acted) : Type 0 where
  pub may : may_step setup old.cluster e ≡ true
  pub follower : may_follow e ≡ true
  pub row : a.met ≡ Row
  pub made : IsMade setup old before e followed new later a
