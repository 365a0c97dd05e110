-- A run without clients: one mark, the end that it has, and what each shard then holds.
use Rattle.std.specs.Prelude.{◌≡◌, ℕ, List, [], ◌∷◌}
use Rattle.resh_value.specs.declared.value.Value.{Value}
use Rattle.resh_chunks.specs.Chunks.{Chunks}
use Rattle.resh_coord.specs.declared.cause.Cause.{Cause}
use Rattle.resh_coord.specs.declared.cause.Cause.TheVariants.{Clash}
use Rattle.resh_coord.specs.declared.cause.End.{End}
use Rattle.resh_coord.specs.declared.cause.End.TheVariants.{Committed, Aborted}
use Rattle.resh_setup.specs.declared.setup.Setup.{Setup}
use Rattle.resh_setup.specs.declared.turn.Turn.{Turn}
use Rattle.resh_setup.specs.declared.turn.Turn.TheVariants.{Switch, Drop}
use Rattle.resh_bag.specs.Bag.{Bag, Document, opening_bag}
use Rattle.resh_bag.specs.Placement.{parts, HasNoClash, IsFirstClash}

abbrev pub bag_of : Setup → Bag
bag_of setup = opening_bag setup.old_map setup.documents

-- the cause that names a clash
abbrev pub clash_at : ℕ → Value → Cause
clash_at shard id = Clash (record { 0 = shard }) id

-- Where no clash stands, the collection switches, and each shard holds its part by the new map.
-- Else the first clash drops it, and each shard holds its part by the old map.
pub data IsRun (old_map new_map : Chunks) (bag : Bag) (order : List Turn) (end : End)
    (holdings : List (List Document)) : Type 0 where
  switched : HasNoClash new_map bag → order ≡ Switch ∷ [] → end ≡ Committed → holdings ≡ parts new_map bag
      → IsRun old_map new_map bag order end holdings
  dropped : (shard : ℕ) (id : Value) → IsFirstClash new_map bag shard id
      → order ≡ Drop (clash_at shard id) ∷ [] → end ≡ Aborted (clash_at shard id) → holdings ≡ parts old_map bag
      → IsRun old_map new_map bag order end holdings
