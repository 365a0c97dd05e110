-- The page of an order, and the orders that a setup without clients comes to.
use Rattle.std.specs.Prelude.{◌≡◌, ℕ, List, [], ◌∷◌}
use Rattle.resh_value.specs.declared.value.Value.{Value}
use Rattle.resh_coord.specs.declared.cause.End.{End}
use Rattle.resh_coord.specs.declared.cause.End.TheVariants.{Committed, Aborted}
use Rattle.resh_setup.specs.declared.setup.Setup.{Setup}
use Rattle.resh_setup.specs.declared.turn.Turn.{Turn}
use Rattle.resh_setup.specs.declared.turn.Turn.TheVariants.{Switch, Drop}
use Rattle.resh_report.specs.Lines.{names_of}
use Rattle.resh_report.specs.Page.{page_text}
use Rattle.resh_bag.specs.Placement.{HasNoClash, IsFirstClash}
use Rattle.resh_model.specs.Marks.{bag_of, clash_at}
use Rattle.resh_model.specs.Orders.{last_state, holdings_of, IsLawful}

-- the order, the replies to each client, each shard's documents and the end
abbrev pub page_of : Setup → List Turn → End → List ℕ
page_of setup order end = page_text setup.shards (names_of setup.clients) order end (last_state setup order).answers
    (holdings_of (last_state setup order))

-- without clients there is the mark alone: the switch where no clash stands, and else the drop for the first clash
pub data IsMarked (setup : Setup) (order : List Turn) (end : End) : Type 0 where
  switched : HasNoClash setup.new_map (bag_of setup) → order ≡ Switch ∷ [] → end ≡ Committed → IsMarked setup order end
  dropped : (shard : ℕ) (id : Value) → IsFirstClash setup.new_map (bag_of setup) shard id
      → order ≡ Drop (clash_at shard id) ∷ [] → end ≡ Aborted (clash_at shard id) → IsMarked setup order end
