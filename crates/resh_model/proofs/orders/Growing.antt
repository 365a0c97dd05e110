-- Over an order the collection stays one of whole documents, and an order grows turn by turn.
use Rattle.std.proofs.Common.{◌≡◌, Bool, true, false, cond, List, [], ◌∷◌, ◌++◌, length, Option, Some, None, ℕ, refl, sym, ap, subst, ◌∙◌}
use Rattle.resh_value.specs.Lookup.{id_of}
use Rattle.resh_value.specs.Whole.{IsWhole}
use Rattle.resh_chunks.specs.Chunks.{Chunks, owner_of}
use Rattle.resh_command.specs.declared.command.Command.{Command}
use Rattle.resh_setup.specs.declared.setup.Setup.{Setup}
use Rattle.resh_setup.specs.declared.turn.Turn.{Turn}
use Rattle.resh_setup.specs.declared.turn.Turn.TheVariants as turn
use Rattle.resh_bag.specs.Answer.{doing}
use Rattle.resh_bag.specs.Bag.{documents, IsPlaced}
use Rattle.resh_bag.specs.WholeLaws.{HoldsWhole, BringsWhole}
use Rattle.resh_bag.proofs.bags.Opening.{opens_placed}
use Rattle.resh_bag.proofs.bags.WholeHeld.{stays_whole}
use Rattle.resh_bag.proofs.shards.Parting.{document_held}
use Rattle.resh_model.specs.Orders.{Fate, undecided, asked, ended, State, opening, replies_to, commands_of, next_command, abort_asked, done, is_abort, served, turned, walked, Allows, AllowsAll}
use Rattle.resh_model.specs.WholeLaws.{IsWholeSetup, WalksStayWhole, GrowsByTurns}
use Rattle.resh_model.proofs.orders.Placed.{stays_placed}
use Rattle.resh_model.proofs.orders.Turns.{walked-append}

module _ (setup : Setup) (whole_setup : IsWholeSetup setup) where
  either : (b : Bool) (one other : State) → HoldsWhole one.bag → HoldsWhole other.bag → HoldsWhole (cond b one other).bag
  either true one other p q = p
  either false one other p q = q

  abort_whole : (client : ℕ) (state : State) (fate : Fate) → HoldsWhole state.bag → HoldsWhole (abort_asked client fate state).bag
  abort_whole client state undecided h = h
  abort_whole client state (asked other number) h = h
  abort_whole client state (ended end) h = h

  serve_whole : (client : ℕ) (state : State) (refused : Bool) (next : Option Command) → ((command : Command) → next ≡ Some command → BringsWhole command)
      → HoldsWhole state.bag → HoldsWhole (served client refused next state).bag
  serve_whole client state refused None brings h = h
  serve_whole client state true (Some command) brings h = h
  serve_whole client state false (Some command) brings h =
      either (is_abort command) (abort_asked client state.fate state) (done client (doing state.map state.bag command) state) (abort_whole client state state.fate h) (stays_whole.does state.map state.bag command h (brings command refl))

  turn_whole : (state : State) (t : Turn) → IsPlaced state.map state.bag → HoldsWhole state.bag → HoldsWhole (turned setup state t).bag
  turn_whole state (turn.Command client refused) placed h =
      serve_whole client state refused (next_command setup state client) (λ command is. whole_setup.commands client (length (replies_to state client)) command is) h
  turn_whole state turn.Switch placed h =
      λ shard id d is. let there = opens_placed.only setup.new_map (documents state.bag) shard id d is in
      h (owner_of state.map d) (id_of d) d (document_held state.map state.bag placed d there)
  turn_whole state (turn.Drop cause) placed h = h

  walk_whole : (state : State) (ts : List Turn) → IsPlaced state.map state.bag → HoldsWhole state.bag → HoldsWhole (walked setup state ts).bag
  walk_whole state [] placed h = h
  walk_whole state (t ∷ ts) placed h = walk_whole (turned setup state t) ts (stays_placed.turns setup state t placed) (turn_whole state t placed h)

  walks : (order : List Turn) → HoldsWhole (walked setup (opening setup) order).bag
  walks order = walk_whole (opening setup) order (stays_placed.opens setup) (stays_whole.opens setup.old_map setup.documents whole_setup.documents)

pub walks_stay_whole : WalksStayWhole
walks_stay_whole setup whole order = walks setup whole order

allowed-append : (setup : Setup) (state : State) (order more : List Turn) → AllowsAll setup state order → AllowsAll setup (walked setup state order) more → AllowsAll setup state (order ++ more)
allowed-append setup state [] more all onward = onward
allowed-append setup state (t ∷ ts) more all onward = (all.0, allowed-append setup (turned setup state t) ts more all.1 onward)

pub grows_by_turns : GrowsByTurns
grows_by_turns = record {
  state = λ setup state order more. walked-append setup state order more;
  turn = λ setup state order t all may. allowed-append setup state order (t ∷ []) all (may, tt);
  turns = λ setup state order more all onward. allowed-append setup state order more all onward;
}
