-- The order of turns that a schedule makes.
use Rattle.std.specs.Prelude.{ℕ, true, false, List, [], ◌∷◌, ◌++◌, Option, Some, None}
use Rattle.resh_coord.specs.declared.cause.End.{End}
use Rattle.resh_coord.specs.declared.cause.End.TheVariants.{Committed, Aborted}
use Rattle.resh_command.specs.declared.command.Command.{Command}
use Rattle.resh_setup.specs.declared.event.Event.{Event}
use Rattle.resh_setup.specs.declared.event.Event.TheVariants.{Client}
use Rattle.resh_setup.specs.declared.setup.Setup.{Setup}
use Rattle.resh_setup.specs.declared.turn.Turn.{Turn}
use Rattle.resh_setup.specs.declared.turn.Turn.TheVariants as turn
use Rattle.resh_cells.specs.declared.cluster.Cluster.{Cluster}
use Rattle.resh_events.specs.Runs.{Moment, Run, after}
use Rattle.resh_events.specs.Targets.{next_command}
use Rattle.resh_setup.specs.declared.trace.Met.{Met}
use Rattle.resh_setup.specs.declared.trace.Met.TheVariants.{Row, NoMemory, NoMemoryInMove}
use Rattle.resh_events.specs.rows.Client.{Coming, coming, comes, refreshes, waits}

-- a command that is answered is a turn; one that waits or refreshes is none
abbrev pub turn_by : ℕ → Coming → List Turn
turn_by c waits = []
turn_by c refreshes = []
turn_by c comes = turn.Command c false ∷ []

abbrev pub row_turns : Setup → Cluster → ℕ → Option Command → List Turn
row_turns setup cluster c None = []
row_turns setup cluster c (Some command) = turn_by c (coming setup cluster c command)

-- a command that is refused is a turn that is so marked
abbrev pub client_turns : Setup → Cluster → ℕ → Met → List Turn
client_turns setup cluster c Row = row_turns setup cluster c (next_command setup cluster c)
client_turns setup cluster c NoMemory = turn.Command c true ∷ []
client_turns setup cluster c NoMemoryInMove = turn.Command c true ∷ []
client_turns setup cluster c other = []

abbrev pub event_turns : Setup → Cluster → Event → Met → List Turn
event_turns setup cluster (Client c) met = client_turns setup cluster c met
event_turns setup cluster other met = []

-- the mark, where the event has decided
abbrev pub mark_of : Option End → Option End → List Turn
mark_of None (Some Committed) = turn.Switch ∷ []
mark_of None (Some (Aborted cause)) = turn.Drop cause ∷ []
mark_of before now = []

-- of an event, by the states before and after it
abbrev pub turns_of : Setup → Run → Moment → List Turn
turns_of setup run m =
    event_turns setup run.cluster m.made.event m.made.met
    ++ mark_of run.cluster.control.decision (after setup run m).cluster.control.decision

unfoldable pub order_of : Setup → Run → List Moment → List Turn
order_of setup run [] = []
order_of setup run (m ∷ ms) = turns_of setup run m ++ order_of setup (after setup run m) ms
