-- Each document stays where the map in force places it.
use Rattle.std.proofs.Common.{◌≡◌, ℕ, Bool, true, false, cond, List, [], ◌∷◌, map, Some, None, refl, sym, ap, ◌∙◌}
use Rattle.std.proofs.lemmas.List.Elements.{All-from_recursion}
use Rattle.std.specs.List.{AllByRecursion, range_with_len}
use Rattle.std.specs.List.Sorted.{IsStrictlySortedBy}
use Rattle.resh_value.specs.Order.{compare_of}
use Rattle.resh_chunks.specs.Chunks.{Chunks, chunk_fault, owner_of}
use Rattle.resh_command.specs.declared.command.Command.{Command}
use Rattle.resh_setup.specs.declared.setup.Setup.{Setup}
use Rattle.resh_setup.specs.declared.turn.Turn.{Turn}
use Rattle.resh_setup.specs.declared.turn.Turn.TheVariants as turn
use Rattle.resh_value.specs.Lookup.{id_of}
use Rattle.resh_bag.specs.Bag.{Bag, Document, place_cmp, place_of, held, put, without, documents, IsPlaced}
use Rattle.resh_bag.specs.Placement.{part}
use Rattle.resh_bag.specs.Answer.{doing, bag_after}
use Rattle.resh_model.specs.Orders.{State, opening, next_command, turned, walked, last_state, holdings_of}
use Rattle.resh_model.specs.OrderLaws.{StaysPlaced, HoldingsRise, HoldingsKeepAll}
use Rattle.resh_bag.proofs.bags.Placed.{after_placed}
use Rattle.resh_bag.proofs.Lists.{all_mapped}
use Rattle.resh_bag.proofs.bags.Opening.{opens_placed}
use Rattle.resh_bag.proofs.shards.Parting.{keeps_all, no_clash_in_place, parts_rise}
use Rattle.resh_model.proofs.orders.Turns.{each_served}

turned_placed : (setup : Setup) (state : State) (t : Turn) → IsPlaced state.map state.bag → IsPlaced (turned setup state t).map (turned setup state t).bag
turned_placed setup state (turn.Command client refused) placed =
    each_served client state (λ s. IsPlaced s.map s.bag) placed placed (λ command. after_placed state.map state.bag placed command) (λ number is free. placed) (λ late. placed) refused
    (next_command setup state client)
turned_placed setup state turn.Switch placed = opens_placed.placed setup.new_map (documents state.bag)
turned_placed setup state (turn.Drop cause) placed = placed

walked_placed : (setup : Setup) (ts : List Turn) (state : State) → IsPlaced state.map state.bag → IsPlaced (walked setup state ts).map (walked setup state ts).bag
walked_placed setup [] state placed = placed
walked_placed setup (t ∷ ts) state placed = walked_placed setup ts (turned setup state t) (turned_placed setup state t placed)

pub stays_placed : StaysPlaced
stays_placed = record {
  opens = λ setup. opens_placed.placed setup.old_map setup.documents;
  turns = turned_placed;
  walks = λ setup order. walked_placed setup order (opening setup) (opens_placed.placed setup.old_map setup.documents);
}

-- the map in force is one of the two
turned_whole : (setup : Setup) → chunk_fault setup.new_map ≡ None → (state : State) (t : Turn) → chunk_fault state.map ≡ None → chunk_fault (turned setup state t).map ≡ None
turned_whole setup new state (turn.Command client refused) old =
    each_served client state (λ s. chunk_fault s.map ≡ None) old old (λ command. old) (λ number is free. old) (λ late. old) refused (next_command setup state client)
turned_whole setup new state turn.Switch old = new
turned_whole setup new state (turn.Drop cause) old = old

walked_whole : (setup : Setup) → chunk_fault setup.new_map ≡ None → (ts : List Turn) (state : State) → chunk_fault state.map ≡ None → chunk_fault (walked setup state ts).map ≡ None
walked_whole setup new [] state old = old
walked_whole setup new (t ∷ ts) state old = walked_whole setup new ts (turned setup state t) (turned_whole setup new state t old)

each_part : (shards : List ℕ) (chunks : Chunks) (bag : Bag) → IsPlaced chunks bag → AllByRecursion (λ shard. IsStrictlySortedBy compare_of (map id_of (part chunks bag shard))) shards
each_part [] chunks bag placed = tt
each_part (shard ∷ shards) chunks bag placed = (parts_rise chunks chunks bag placed (no_clash_in_place chunks bag placed) shard, each_part shards chunks bag placed)

pub holdings_rise : HoldingsRise
holdings_rise setup order =
    let state = last_state setup order in
    All-from_recursion (λ p. IsStrictlySortedBy compare_of (map id_of p)) (holdings_of state)
    (all_mapped (part state.map state.bag) (λ p. IsStrictlySortedBy compare_of (map id_of p)) (range_with_len 0 state.map.shards)
    (each_part (range_with_len 0 state.map.shards) state.map state.bag (stays_placed.walks setup order)))

pub holdings_keep_all : HoldingsKeepAll
holdings_keep_all setup order old new =
    let state = last_state setup order in
    keeps_all state.map state.bag (walked_whole setup new order (opening setup) old)
