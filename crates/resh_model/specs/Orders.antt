-- The order of turns: how it is walked, and when it is lawful.
use Rattle.std.specs.Prelude.{◌≡◌, ⊤, ℕ, ◌+◌, Bool, true, false, cond, List, [], ◌∷◌, ◌++◌, length, map, slice_get, slice_index_or, slice_set, Option, Some, None}
use Rattle.resh_chunks.specs.Chunks.{Chunks}
use Rattle.resh_coord.specs.declared.cause.Cause.{Cause}
use Rattle.resh_coord.specs.declared.cause.Cause.TheVariants.{Clash, Asked, Failed, NoMemory}
use Rattle.resh_coord.specs.declared.cause.End.{End}
use Rattle.resh_coord.specs.declared.cause.End.TheVariants.{Committed, Aborted}
use Rattle.resh_command.specs.declared.command.Command.{Command}
use Rattle.resh_command.specs.declared.command.Command.TheVariants.{Insert, Update, Delete, Find, Count, Abort}
use Rattle.resh_command.specs.declared.reply.Reply.{Reply}
use Rattle.resh_command.specs.declared.reply.Reply.TheVariants as reply
use Rattle.resh_setup.specs.declared.client.Client.{Client}
use Rattle.resh_setup.specs.declared.setup.Setup.{Setup}
use Rattle.resh_setup.specs.declared.turn.Turn.{Turn}
use Rattle.resh_setup.specs.declared.turn.Turn.TheVariants as turn
use Rattle.resh_bag.specs.Bag.{Bag, Document, documents, opening_bag}
use Rattle.resh_bag.specs.Placement.{parts, HasNoClash, IsFirstClash}
use Rattle.resh_bag.specs.Answer.{Doing, doing, bag_after, reply_of}

-- what has been decided: nothing yet, that an abort was accepted whose drop comes next, or the end
pub data Fate : Type 0 where
  undecided : Fate
  asked : ℕ → ℕ → Fate
  ended : End → Fate

-- the collection, the map in force, what has been decided, and each client's replies so far
pub record State : Type 0 where
  pub bag : Bag
  pub map : Chunks
  pub fate : Fate
  pub answers : List (List Reply)

abbrev pub opening : Setup → State
opening setup = record {
  bag = opening_bag setup.old_map setup.documents;
  map = setup.old_map;
  fate = undecided;
  answers = map (λ client. []) setup.clients;
}

-- what a client was answered
abbrev pub replies_to : State → ℕ → List Reply
replies_to state client = slice_index_or state.answers client []

abbrev pub commands_of : Option Client → List Command
commands_of (Some client) = client.commands
commands_of None = []

-- the command that a client asks next, where it has one left
abbrev pub next_command : Setup → State → ℕ → Option Command
next_command setup state client = slice_get (commands_of (slice_get setup.clients client))
    (length (replies_to state client))

-- the state with one more reply to a client
abbrev pub replied : ℕ → Reply → State → State
replied client reply state =
    record state { answers = slice_set state.answers client (replies_to state client ++ reply ∷ []) }

-- an abort is accepted where nothing has been decided
abbrev pub abort_asked : ℕ → Fate → State → State
abort_asked client undecided state = replied client reply.AbortAccepted
    (record state { fate = asked client (length (replies_to state client) + 1) })
abort_asked client (asked other number) state = replied client reply.AbortTooLate state
abort_asked client (ended end) state = replied client reply.AbortTooLate state

-- a command is done, and its reply is given
abbrev pub done : ℕ → Doing → State → State
done client doing state = replied client (reply_of doing) (record state { bag = bag_after state.bag doing })

abbrev pub is_abort : Command → Bool
is_abort (Insert document) = false
is_abort (Update filter update) = false
is_abort (Delete filter) = false
is_abort (Find filter) = false
is_abort (Count filter) = false
is_abort Abort = true

abbrev pub answered : ℕ → Command → State → State
answered client command state = cond (is_abort command) (abort_asked client state.fate state)
    (done client (doing state.map state.bag command) state)

-- a client's turn: a refused command changes nothing
abbrev pub served : ℕ → Bool → Option Command → State → State
served client refused None state = state
served client true (Some command) state = replied client reply.NoMemory state
served client false (Some command) state = answered client command state

-- the new map is in force, and each document stands under the shard that it gives
abbrev pub switched : Setup → State → State
switched setup state = record state {
  bag = opening_bag setup.new_map (documents state.bag);
  map = setup.new_map;
  fate = ended Committed;
}

abbrev pub dropped : Cause → State → State
dropped cause state = record state { fate = ended (Aborted cause) }

-- the state after a turn
abbrev pub turned : Setup → State → Turn → State
turned setup state (turn.Command client refused) = served client refused (next_command setup state client) state
turned setup state turn.Switch = switched setup state
turned setup state (turn.Drop cause) = dropped cause state

-- the state after some turns
abbrev pub walked : Setup → State → List Turn → State
walked setup state [] = state
walked setup state (t ∷ ts) = walked setup (turned setup state t) ts

-- no abort waits for its drop
abbrev pub IsFree : Fate → Type 0
IsFree undecided = ⊤
IsFree (asked client number) = ⊥
IsFree (ended end) = ⊤

abbrev pub HasNext : Option Command → Type 0
HasNext (Some command) = ⊤
HasNext None = ⊥

-- a drop: for the first clash, for the abort that was accepted just before, or for a failure or want of memory
abbrev pub AllowsDrop : Setup → State → Cause → Type 0
AllowsDrop setup state (Clash shard id) = (state.fate ≡ undecided) × IsFirstClash setup.new_map state.bag shard.0 id
AllowsDrop setup state (Asked client number) = state.fate ≡ asked client number
AllowsDrop setup state (Failed node why) = state.fate ≡ undecided
AllowsDrop setup state NoMemory = state.fate ≡ undecided

-- a turn that may come: a client's next command, the switch where no clash stands, or a drop
abbrev pub Allows : Setup → State → Turn → Type 0
Allows setup state (turn.Command client refused) = IsFree state.fate × HasNext (next_command setup state client)
Allows setup state turn.Switch = (state.fate ≡ undecided) × HasNoClash setup.new_map state.bag
Allows setup state (turn.Drop cause) = AllowsDrop setup state cause

-- each turn may come where it stands
abbrev pub AllowsAll : Setup → State → List Turn → Type 0
AllowsAll setup state [] = ⊤
AllowsAll setup state (t ∷ ts) = Allows setup state t × AllowsAll setup (turned setup state t) ts

-- the end stands, and no client has a command left
pub record IsFinished (setup : Setup) (state : State) (end : End) : Type 0 where
  pub decided : state.fate ≡ ended end
  pub served : (client : ℕ) → next_command setup state client ≡ None

-- an order is lawful where each turn may come, and the last state is finished
pub record IsLawful (setup : Setup) (order : List Turn) (end : End) : Type 0 where
  pub allowed : AllowsAll setup (opening setup) order
  pub finished : IsFinished setup (walked setup (opening setup) order) end

abbrev pub last_state : Setup → List Turn → State
last_state setup order = walked setup (opening setup) order

-- the documents of each shard, by `_id`
abbrev pub holdings_of : State → List (List Document)
holdings_of state = parts state.map state.bag
