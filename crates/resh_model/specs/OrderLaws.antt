-- What lawful orders, and the states that they walk through, keep.
use Rattle.std.specs.Prelude.{◌≡◌, ◌≢◌, ℕ, Bool, true, false, cond, ◌==◌, List, [], ◌∷◌, ◌++◌, length, filter, map, slice_get, Option, None}
use Rattle.std.specs.List.{All, cons_option}
use Rattle.std.specs.List.Sorted.{IsPermutation, IsStrictlySortedBy}
use Rattle.resh_value.specs.Order.{compare_of}
use Rattle.resh_chunks.specs.Chunks.{Chunks, chunk_fault}
use Rattle.resh_coord.specs.declared.cause.Cause.{Cause}
use Rattle.resh_coord.specs.declared.cause.Cause.TheVariants.{Asked}
use Rattle.resh_coord.specs.declared.cause.End.{End}
use Rattle.resh_coord.specs.declared.cause.End.TheVariants.{Committed, Aborted}
use Rattle.resh_command.specs.declared.command.Command.{Command}
use Rattle.resh_command.specs.declared.reply.Reply.{Reply}
use Rattle.resh_command.specs.declared.reply.Reply.TheVariants.{Inserted, Duplicate, Matched, NotFound, Deleted, Found, Counted, NoKey, Refused, AbortAccepted, AbortTooLate, NoMemory}
use Rattle.resh_setup.specs.declared.setup.Setup.{Setup}
use Rattle.resh_setup.specs.declared.turn.Turn.{Turn}
use Rattle.resh_setup.specs.declared.turn.Turn.TheVariants as turn
use Rattle.resh_value.specs.Lookup.{id_of}
use Rattle.resh_bag.specs.Bag.{Bag, Document, documents, IsPlaced}
use Rattle.resh_bag.specs.Placement.{parts, all_of, HasNoClash}
use Rattle.resh_model.specs.Marks.{bag_of, IsRun}
use Rattle.resh_bag.specs.Answer.{doing, bag_after, reply_of}
use Rattle.resh_model.specs.Orders.{State, opening, replies_to, commands_of, next_command, turned, last_state, holdings_of, HasNext, IsLawful}

-- an order has one end
abbrev pub HasOneEnd : Type 0
HasOneEnd = (setup : Setup) (order : List Turn) (one other : End) → IsLawful setup order one
    → IsLawful setup order other → one ≡ other

-- the command that a turn has a client ask
abbrev pub asked_at : Setup → State → ℕ → Turn → Option Command
asked_at setup state client (turn.Command other refused) = cond (other == client) (next_command setup state client) None
asked_at setup state client turn.Switch = None
asked_at setup state client (turn.Drop cause) = None

-- the commands that some turns have a client ask
abbrev pub asked_by : Setup → State → ℕ → List Turn → List Command
asked_by setup state client [] = []
asked_by setup state client (t ∷ ts) = cons_option (asked_at setup state client t)
    (asked_by setup (turned setup state t) client ts)

-- in a lawful order each client asks its commands, once each and in their order
abbrev pub AsksEachOnce : Type 0
AsksEachOnce = (setup : Setup) (order : List Turn) (end : End) → IsLawful setup order end
    → (client : ℕ) → asked_by setup (opening setup) client order ≡ commands_of (slice_get setup.clients client)

abbrev pub is_turn_of : ℕ → Turn → Bool
is_turn_of client (turn.Command other refused) = other == client
is_turn_of client turn.Switch = false
is_turn_of client (turn.Drop cause) = false

-- it has a turn for each of them
abbrev pub HasTurnForEach : Type 0
HasTurnForEach = (setup : Setup) (order : List Turn) (end : End) → IsLawful setup order end
    → (client : ℕ) → length (filter (is_turn_of client) order) ≡ length (commands_of (slice_get setup.clients client))

-- and is answered as often
abbrev pub AnswersEachOnce : Type 0
AnswersEachOnce = (setup : Setup) (order : List Turn) (end : End) → IsLawful setup order end
    → (client : ℕ) → length (replies_to (last_state setup order) client)
    ≡ length (commands_of (slice_get setup.clients client))

-- after some turns, a turn of a client that has a command left gives it one more reply, and the other clients none
pub record AnswersOne : Type 0 where
  pub one : (setup : Setup) (before : List Turn) (client : ℕ) (refused : Bool)
      → HasNext (next_command setup (last_state setup before) client)
      → (reply : Reply) × (replies_to (turned setup (last_state setup before) (turn.Command client refused)) client
      ≡ replies_to (last_state setup before) client ++ reply ∷ [])
  pub others : (setup : Setup) (before : List Turn) (client other : ℕ) (refused : Bool) → other ≢ client
      → replies_to (turned setup (last_state setup before) (turn.Command client refused)) other
      ≡ replies_to (last_state setup before) other

abbrev pub is_mark : Turn → Bool
is_mark (turn.Command client refused) = false
is_mark turn.Switch = true
is_mark (turn.Drop cause) = true

-- the mark of an end
abbrev pub mark_of : End → Turn
mark_of Committed = turn.Switch
mark_of (Aborted cause) = turn.Drop cause

-- one mark stands in a lawful order, the one of its end
abbrev pub HasOneMark : Type 0
HasOneMark = (setup : Setup) (order : List Turn) (end : End) → IsLawful setup order end
    → filter is_mark order ≡ mark_of end ∷ []

-- a turn at which a client is answered that its abort is accepted, its command of this number
pub record AcceptsAbort (setup : Setup) (state : State) (t : Turn) (client number : ℕ) : Type 0 where
  pub reply : replies_to (turned setup state t) client ≡ replies_to state client ++ AbortAccepted ∷ []
  pub numbered : number ≡ length (replies_to (turned setup state t) client)

-- the drop that an accepted abort brings
abbrev pub drop_of : ℕ → ℕ → Turn
drop_of client number = turn.Drop (Asked client number)

-- some turns end with one at which an abort is accepted
pub record EndsAccepting (setup : Setup) (before : List Turn) (client number : ℕ) : Type 0 where
  pub front : List Turn
  pub last : Turn
  pub is : before ≡ front ++ last ∷ []
  pub accepts : AcceptsAbort setup (last_state setup front) last client number

-- in a lawful order an accepted abort is followed at once by its drop
abbrev pub DropsAtOnce : Type 0
DropsAtOnce = (setup : Setup) (before : List Turn) (t : Turn) (after : List Turn) (end : End) (client number : ℕ)
    → IsLawful setup (before ++ t ∷ after) end → AcceptsAbort setup (last_state setup before) t client number
    → (rest : List Turn) × (after ≡ drop_of client number ∷ rest)

-- and such a drop stands nowhere else
abbrev pub DropsOnlyThere : Type 0
DropsOnlyThere = (setup : Setup) (before after : List Turn) (end : End) (client number : ℕ)
    → IsLawful setup (before ++ drop_of client number ∷ after) end → EndsAccepting setup before client number

-- the replies after which the collection may differ
abbrev pub is_change : Reply → Bool
is_change Inserted = true
is_change Duplicate = false
is_change (Matched changed) = true
is_change NotFound = false
is_change Deleted = true
is_change (Found count first) = false
is_change (Counted count) = false
is_change NoKey = false
is_change (Refused fault) = false
is_change AbortAccepted = false
is_change AbortTooLate = false
is_change NoMemory = false

-- where another reply is given, the bag stays as it was
abbrev pub RepliesLeaveBag : Type 0
RepliesLeaveBag = (chunks : Chunks) (bag : Bag) (command : Command)
    → is_change (reply_of (doing chunks bag command)) ≡ false → bag_after bag (doing chunks bag command) ≡ bag

-- a refused turn leaves the bag, the map and what has been decided
pub record RefusedLeave : Type 0 where
  pub bag : (setup : Setup) (state : State) (client : ℕ) → (turned setup state (turn.Command client true)).bag
      ≡ state.bag
  pub map : (setup : Setup) (state : State) (client : ℕ) → (turned setup state (turn.Command client true)).map
      ≡ state.map
  pub fate : (setup : Setup) (state : State) (client : ℕ) → (turned setup state (turn.Command client true)).fate
      ≡ state.fate

-- a drop leaves the bag and the map
pub record DropLeaves : Type 0 where
  pub bag : (setup : Setup) (state : State) (cause : Cause) → (turned setup state (turn.Drop cause)).bag ≡ state.bag
  pub map : (setup : Setup) (state : State) (cause : Cause) → (turned setup state (turn.Drop cause)).map ≡ state.map

-- where no clash stands, a switch keeps each document, and each shard then holds the part that the new map gave it
pub record SwitchKeeps : Type 0 where
  pub all : (setup : Setup) (state : State) → IsPlaced state.map state.bag → HasNoClash setup.new_map state.bag
      → IsPermutation (documents state.bag) (documents (turned setup state turn.Switch).bag)
  pub holdings : (setup : Setup) (state : State) → IsPlaced state.map state.bag → HasNoClash setup.new_map state.bag
      → holdings_of (turned setup state turn.Switch) ≡ parts setup.new_map state.bag

-- each document stands where the map in force places it, at first and after every turn
pub record StaysPlaced : Type 0 where
  pub opens : (setup : Setup) → IsPlaced (opening setup).map (opening setup).bag
  pub turns : (setup : Setup) (state : State) (t : Turn) → IsPlaced state.map state.bag
      → IsPlaced (turned setup state t).map (turned setup state t).bag
  pub walks : (setup : Setup) (order : List Turn) → IsPlaced (last_state setup order).map (last_state setup order).bag

-- after some turns the `_id`s that a shard holds rise, so that none stands twice on it
abbrev pub HoldingsRise : Type 0
HoldingsRise = (setup : Setup) (order : List Turn) → All (λ held. IsStrictlySortedBy compare_of (map id_of held))
    (holdings_of (last_state setup order))

-- and the shards hold each document of the bag, once
abbrev pub HoldingsKeepAll : Type 0
HoldingsKeepAll = (setup : Setup) (order : List Turn) → chunk_fault setup.old_map ≡ None
    → chunk_fault setup.new_map ≡ None
    → IsPermutation (documents (last_state setup order).bag) (all_of (holdings_of (last_state setup order)))

-- where there are no clients, a run of one mark is a lawful order, and each shard holds what it says
abbrev pub RunsAreLawful : Type 0
RunsAreLawful = (setup : Setup) (order : List Turn) (end : End) (holdings : List (List Document)) → setup.clients ≡ []
    → IsRun setup.old_map setup.new_map (bag_of setup) order end holdings → IsLawful setup order end
    × (holdings ≡ holdings_of (last_state setup order))
