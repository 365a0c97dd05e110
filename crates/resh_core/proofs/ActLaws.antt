-- An event as it is made: the cells that it holds, its stamp, its change, its crash, its clocks.
use Rattle.std.proofs.Common.{◌≡◌, ◌<◌, ◌⊎◌, ℕ, Bool, true, false, List, [], ◌∷◌, ◌++◌, map, Option, Some, None, is_some, refl, sym, ◌∙◌, ap, subst, inl, inr}
use Rattle.std.specs.List.{fold}
use Rattle.resh_stamp.specs.Times.{end_of_time, next_time}
use Rattle.resh_stamp.specs.declared.stamp.Stamp.{Stamp}
use Rattle.resh_command.specs.declared.command.Command.{Command}
use Rattle.resh_coord.specs.declared.cause.End.{End}
use Rattle.resh_setup.specs.declared.event.Event.{Event}
use Rattle.resh_setup.specs.declared.event.Event.TheVariants as event
use Rattle.resh_setup.specs.declared.seen.Seen.{Seen}
use Rattle.resh_setup.specs.declared.setup.Setup.{Setup}
use Rattle.resh_setup.specs.declared.trace.Met.{Met}
use Rattle.resh_setup.specs.declared.trace.Met.TheVariants.{Row, CrashedBefore, CrashedAfter, Failed, Lost, NoMemory, NoMemoryInMove}
use Rattle.resh_setup.specs.declared.turn.Turn.{Turn}
use Rattle.resh_cells.specs.Clocks.{clock_of, clocks_of, first_number, with_clock, with_clocks}
use Rattle.resh_cells.specs.declared.cell.Cell.{Cell}
use Rattle.resh_cells.specs.declared.cluster.Clocks.{Clocks}
use Rattle.resh_cells.specs.declared.cluster.Cluster.{Cluster}
use Rattle.resh_events.specs.Follows.{follows}
use Rattle.resh_events.specs.Luck.{Asks, change, holds, may_meet, quiet, seen}
use Rattle.resh_events.specs.Lucks.{Lucks, called}
use Rattle.resh_events.specs.Plans.{IsWant, given_by}
use Rattle.resh_events.specs.Steps.{piece_for}
use Rattle.resh_events.specs.Table as table
use Rattle.resh_events.specs.Targets.{next_command}
use Rattle.resh_events.specs.Turns.{client_turns, event_turns, mark_of, row_turns, turn_by}
use Rattle.resh_events.specs.rows.Client.{Coming, coming, comes, refreshes, seen_by, seen_of, waits}
use Rattle.resh_asking.specs.Turns.{IsTurn}
use Rattle.resh_asking.specs.declared.asked.Asked.{Asked}
use Rattle.resh_core.specs.Making.{HasActed, HasChanged, HasKept, IsGiven, IsMade, asked, counted_by, is_client, made_of, mark_by, time_of, turn_shown, turns_shown, uncounted}
use Rattle.resh_core.specs.declared.making.Acted.{Acted}
use Rattle.resh_core.specs.declared.making.State.{State}
use Rattle.resh_core.proofs.RowLaws.{change_row, given_comes, holds_row}

stamp_same : (s : Stamp) (time node : ℕ) → s.time ≡ time → s.node ≡ node → s ≡ record { time = time; node = node }
stamp_same s time node h k =
    let first : s ≡ record { time = time; node = s.node } = ap (λ (t : ℕ). let st : Stamp = record { time = t; node = s.node } in st) h in
    first ∙ ap (λ (n : ℕ). let st : Stamp = record { time = time; node = n } in st) k

acted_row : (setup : Setup) (old mid counted new : Cluster) (e : Event) (followed time : ℕ) (given met : Met) (stamp : Stamp)
    (s : Seen) (follower : Option Event) (cells : List Cell) (a : Asks)
    → is_client e ≡ false → cells ≡ table.holds setup old e → time ≡ time_of (piece_for old e)
    → stamp.time ≡ next_time followed (time ∷ map (clock_of old.clocks) cells) → stamp.node ≡ first_number setup cells
    → stamp.time < end_of_time → HasChanged setup old e stamp given met mid s → a ≡ asked old e
    → counted ≡ counted_by a met mid → new ≡ with_clocks stamp.time cells counted → follower ≡ follows new e a met
    → HasActed setup old e followed given new (record { stamp = stamp; met = met; seen = s; follower = follower })
acted_row setup old mid counted new e followed time given met stamp s follower cells a row held timed at node early changed asks count set follow =
    let held2 : cells ≡ holds setup old e met = held ∙ sym (holds_row setup old e met row) in
    let by_row : change setup stamp old e (piece_for old e) met ≡ counted_by (asked old e) met (uncounted setup stamp old e met) =
    change_row setup stamp old e met row in
    let at2 : stamp.time ≡ next_time followed (time_of (piece_for old e) ∷ clocks_of old (holds setup old e met)) =
    at ∙ ap (λ (t : ℕ). next_time followed (t ∷ map (clock_of old.clocks) cells)) timed
    ∙ ap (λ (c : List Cell). next_time followed (time_of (piece_for old e) ∷ map (clock_of old.clocks) c)) held2 in
    let counted2 : counted ≡ change setup stamp old e (piece_for old e) met =
    count ∙ ap (λ (x : Asks). counted_by x met mid) asks
    ∙ ap (λ (x : Cluster). counted_by (asked old e) met x) changed.cluster ∙ sym by_row in
    record {
      stamp = stamp_same stamp _ _ at2 (node ∙ ap (λ (c : List Cell). first_number setup c) held2);
      in_time = early;
      meets = changed.meets;
      answers = changed.answers;
      bounded = changed.bounded;
      cluster = set ∙ ap (λ (c : List Cell). with_clocks stamp.time c counted) held2
          ∙ ap (λ (x : Cluster). with_clocks stamp.time (holds setup old e met) x) counted2;
      seen = changed.seen;
      follower = follow ∙ ap (λ (x : Asks). follows new e x met) asks;
    }

clocks_set : (counted : Cluster) (clocks : Clocks) (time : ℕ) (cells slice : List Cell)
    → clocks ≡ fold (with_clock time) counted.clocks slice → slice ≡ cells
    → record counted { clocks = clocks } ≡ with_clocks time cells counted
clocks_set counted clocks time cells slice set same =
    ap (λ (x : Clocks). let n : Cluster = record counted { clocks = x } in n)
    (set ∙ ap (λ (l : List Cell). fold (with_clock time) counted.clocks l) same)

-- the same by slices of the cells
pub acted_by_slices : (setup : Setup) (old mid counted : Cluster) (clocks : Clocks) (e : Event) (followed time : ℕ)
    (given met : Met) (stamp : Stamp) (s : Seen) (follower : Option Event) (cells first second : List Cell) (a : Asks)
    → is_client e ≡ false → cells ≡ table.holds setup old e → time ≡ time_of (piece_for old e)
    → first ≡ cells → second ≡ cells
    → stamp.time ≡ next_time followed (time ∷ map (clock_of old.clocks) first) → stamp.node ≡ first_number setup first
    → stamp.time < end_of_time → HasChanged setup old e stamp given met mid s → a ≡ asked old e
    → counted ≡ counted_by a met mid → clocks ≡ fold (with_clock stamp.time) counted.clocks second
    → follower ≡ follows (record counted { clocks = clocks }) e a met
    → HasActed setup old e followed given (record counted { clocks = clocks })
    (record { stamp = stamp; met = met; seen = s; follower = follower })
acted_by_slices setup old mid counted clocks e followed time given met stamp s follower cells first second a row held timed one two at node early changed asks count set follow =
    acted_row setup old mid counted (record counted { clocks = clocks }) e followed time given met stamp s follower cells a
    row held timed
    (at ∙ ap (λ (l : List Cell). next_time followed (time ∷ map (clock_of old.clocks) l)) one)
    (node ∙ ap (λ (l : List Cell). first_number setup l) one)
    early changed asks count (clocks_set counted clocks stamp.time cells second set two) follow

-- a client's met is its row or want of memory, which nothing follows
client_met : (setup : Setup) (old new : Cluster) (c : ℕ) (met : Met)
    → may_meet setup old (event.Client c) None met ≡ true
    → ((met ≡ Row) ⊎ IsWant met) × (None ≡ follows new (event.Client c) quiet met)
client_met setup old new c Row h = (inl refl, refl)
client_met setup old new c CrashedBefore h = cc
client_met setup old new c CrashedAfter h = cc
client_met setup old new c Failed h = cc
client_met setup old new c Lost h = cc
client_met setup old new c NoMemory h = (inr (inl refl), refl)
client_met setup old new c NoMemoryInMove h = (inr (inr refl), refl)

pub acted_client : (setup : Setup) (old mid new : Cluster) (c : ℕ) (a : Asked) → IsTurn setup old mid c a
    → new ≡ with_clocks a.stamp.time a.cells.items mid
    → HasActed setup old (event.Client c) 0 Row new (record { stamp = a.stamp; met = a.met; seen = a.seen; follower = None })
acted_client setup old mid new c a turn set =
    let held : a.cells.items ≡ holds setup old (event.Client c) a.met = turn.cells in
    record {
      stamp = stamp_same a.stamp _ _
          (turn.stamp.time ∙ ap (λ (x : List Cell). next_time 0 (0 ∷ map (clock_of old.clocks) x)) held)
          (turn.stamp.node ∙ ap (λ (x : List Cell). first_number setup x) held);
      in_time = turn.stamp.in_time;
      meets = turn.met;
      answers = (client_met setup old new c a.met turn.met).0;
      bounded = λ _. refl;
      cluster = set ∙ ap (λ (x : List Cell). with_clocks a.stamp.time x mid) held
          ∙ ap (λ (x : Cluster). with_clocks a.stamp.time (holds setup old (event.Client c) a.met) x) turn.change;
      seen = turn.seen;
      follower = (client_met setup old new c a.met turn.met).1;
    }

-- the mark, and the turns of a client
mark_same : (before now : Option End) → mark_of before now ≡ mark_by (is_some before) now
mark_same None now = refl
mark_same (Some end) now = refl

coming_turned : (setup : Setup) (cluster : Cluster) (c : ℕ) (k : Coming) → turn_by c k ≡ turn_shown c Row (seen_by setup cluster c k)
coming_turned setup cluster c waits = refl
coming_turned setup cluster c refreshes = refl
coming_turned setup cluster c comes = refl

next_turned : (setup : Setup) (cluster : Cluster) (c : ℕ) (next : Option Command)
    → row_turns setup cluster c next ≡ turn_shown c Row (seen_of setup cluster c next)
next_turned setup cluster c None = refl
next_turned setup cluster c (Some command) = coming_turned setup cluster c (coming setup cluster c command)

client_turned : (setup : Setup) (cluster : Cluster) (c : ℕ) (stamp : Stamp) (met : Met)
    → client_turns setup cluster c met ≡ turn_shown c met (seen setup stamp cluster (event.Client c) None met)
unfolding table.seen
client_turned setup cluster c stamp Row = next_turned setup cluster c (next_command setup cluster c)
client_turned setup cluster c stamp CrashedBefore = refl
client_turned setup cluster c stamp CrashedAfter = refl
client_turned setup cluster c stamp Failed = refl
client_turned setup cluster c stamp Lost = refl
client_turned setup cluster c stamp NoMemory = refl
client_turned setup cluster c stamp NoMemoryInMove = refl

pub kept_client : (setup : Setup) (old new : State) (mid : Cluster) (c : ℕ) (a : Acted) (decided : Bool)
    → HasActed setup old.cluster (event.Client c) 0 Row mid a → new.cluster ≡ mid
    → decided ≡ is_some old.cluster.control.decision → new.trace ≡ old.trace ++ made_of (event.Client c) a ∷ []
    → new.order ≡ old.order ++ (turns_shown (event.Client c) a.met a.seen ++ mark_by decided mid.control.decision)
    → HasKept setup old (event.Client c) a new
kept_client setup old new mid c a decided acted same by trace order = record {
  trace = trace;
  order = order
      ∙ ap (λ (s : Seen). old.order ++ (turn_shown c a.met s ++ mark_by decided mid.control.decision)) acted.seen
      ∙ ap (λ (t : List Turn). old.order ++ (t ++ mark_by decided mid.control.decision))
      (sym (client_turned setup old.cluster c a.stamp a.met))
      ∙ ap (λ (b : Bool). old.order ++ (client_turns setup old.cluster c a.met ++ mark_by b mid.control.decision)) by
      ∙ ap (λ (m : Cluster). old.order ++ (client_turns setup old.cluster c a.met ++ mark_by (is_some old.cluster.control.decision) m.control.decision)) (sym same)
      ∙ ap (λ (t : List Turn). old.order ++ (client_turns setup old.cluster c a.met ++ t)) (sym (mark_same old.cluster.control.decision new.cluster.control.decision));
}

row_turned : (setup : Setup) (cluster : Cluster) (e : Event) (met : Met) (s : Seen) → is_client e ≡ false
    → turns_shown e met s ≡ event_turns setup cluster e met
row_turned setup cluster (event.Client c) met s h = cc
row_turned setup cluster event.Begin met s h = refl
row_turned setup cluster (event.Tell t) met s h = refl
row_turned setup cluster (event.Retell t m) met s h = refl
row_turned setup cluster event.Advance met s h = refl
row_turned setup cluster (event.Clone r d) met s h = refl
row_turned setup cluster (event.Fetch r d) met s h = refl
row_turned setup cluster (event.Cut r d) met s h = refl
row_turned setup cluster (event.Apply r d l) met s h = refl
row_turned setup cluster (event.Again r d l n) met s h = refl
row_turned setup cluster (event.Record r d) met s h = refl
row_turned setup cluster (event.Crash r d) met s h = refl
row_turned setup cluster (event.Report r) met s h = refl
row_turned setup cluster (event.Fail link cause) met s h = refl

pub made_row : (setup : Setup) (old new : State) (mid : Cluster) (before later : Lucks) (e : Event) (followed : ℕ) (a : Acted)
    (given : Met) (asks : Asks) (decided : Bool) → is_client e ≡ false → HasActed setup old.cluster e followed given mid a
    → asks ≡ asked old.cluster e → given ≡ given_by setup before asks → later ≡ called setup asks before → new.cluster ≡ mid
    → decided ≡ is_some old.cluster.control.decision → new.trace ≡ old.trace ++ made_of e a ∷ []
    → new.order ≡ old.order ++ (turns_shown e a.met a.seen ++ mark_by decided mid.control.decision)
    → IsMade setup old before e followed new later a
made_row setup old new mid before later e followed a given asks decided row acted same by told kept was trace order = record {
  acted = subst (λ (m : Met). HasActed setup old.cluster e followed m new.cluster a)
      (by ∙ ap (λ (x : Asks). given_by setup before x) same)
      (subst (λ (m : Cluster). HasActed setup old.cluster e followed given m a) (sym kept) acted);
  kept = record {
    trace = trace;
    order = order
        ∙ ap (λ (t : List Turn). old.order ++ (t ++ mark_by decided mid.control.decision))
        (row_turned setup old.cluster e a.met a.seen row)
        ∙ ap (λ (b : Bool). old.order ++ (event_turns setup old.cluster e a.met ++ mark_by b mid.control.decision)) was
        ∙ ap (λ (m : Cluster). old.order ++ (event_turns setup old.cluster e a.met ++ mark_by (is_some old.cluster.control.decision) m.control.decision)) (sym kept)
        ∙ ap (λ (t : List Turn). old.order ++ (event_turns setup old.cluster e a.met ++ t)) (sym (mark_same old.cluster.control.decision new.cluster.control.decision));
  };
  lucks = told ∙ ap (λ (x : Asks). called setup x before) same;
}

pub given_to : (setup : Setup) (before : Lucks) (asks : Asks) (given : Met) → given ≡ given_by setup before asks → IsGiven asks given
given_to setup before asks given h = subst (λ (m : Met). IsGiven asks m) (sym h) (given_comes setup before asks)

pub made_client : (setup : Setup) (old new : State) (lucks : Lucks) (c : ℕ) (a : Acted)
    → HasActed setup old.cluster (event.Client c) 0 Row new.cluster a → HasKept setup old (event.Client c) a new
    → IsMade setup old lucks (event.Client c) 0 new lucks a
made_client setup old new lucks c a acted kept = record { acted = acted; kept = kept; lucks = refl }
