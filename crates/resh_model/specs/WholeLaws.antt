-- Over an order the collection stays one of whole documents, and an order grows turn by turn.
use Rattle.std.specs.Prelude.{◌≡◌, ℕ, List, [], ◌∷◌, ◌++◌, slice_get, Some}
use Rattle.std.specs.List.{AllByRecursion}
use Rattle.resh_value.specs.Whole.{IsWhole}
use Rattle.resh_command.specs.declared.command.Command.{Command}
use Rattle.resh_setup.specs.declared.setup.Setup.{Setup}
use Rattle.resh_setup.specs.declared.turn.Turn.{Turn}
use Rattle.resh_setup.specs.Validity.{IsValid}
use Rattle.resh_bag.specs.WholeLaws.{HoldsWhole, BringsWhole}
use Rattle.resh_model.specs.Orders.{State, commands_of, turned, walked, last_state, Allows, AllowsAll}

-- a setup's documents are whole, and so is what its clients bring
pub record IsWholeSetup (setup : Setup) : Type 0 where
  pub documents : AllByRecursion IsWhole setup.documents
  pub commands : (client number : ℕ) (command : Command)
      → slice_get (commands_of (slice_get setup.clients client)) number ≡ Some command → BringsWhole command

-- so a valid setup is
abbrev pub ValidIsWhole : Type 0
ValidIsWhole = (setup : Setup) → IsValid setup → IsWholeSetup setup

-- from such a setup each order leads to a collection of whole documents
abbrev pub WalksStayWhole : Type 0
WalksStayWhole = (setup : Setup) → IsWholeSetup setup → (order : List Turn) → HoldsWhole (last_state setup order).bag

-- an order grows turn by turn: where it was lawful so far, it is so with a turn that may come, and its state goes on
pub record GrowsByTurns : Type 0 where
  pub state : (setup : Setup) (state : State) (order more : List Turn)
      → walked setup state (order ++ more) ≡ walked setup (walked setup state order) more
  pub turn : (setup : Setup) (state : State) (order : List Turn) (t : Turn) → AllowsAll setup state order
      → Allows setup (walked setup state order) t → AllowsAll setup state (order ++ t ∷ [])
  pub turns : (setup : Setup) (state : State) (order more : List Turn) → AllowsAll setup state order
      → AllowsAll setup (walked setup state order) more → AllowsAll setup state (order ++ more)
