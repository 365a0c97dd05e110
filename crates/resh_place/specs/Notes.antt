-- What the recipients noted when they reported that they are consistent.
use Rattle.std.specs.Prelude.{◌≡◌, ◌≢◌, ◌<◌, ℕ, List, length, Option, None, Some, slice_index_or}
use Rattle.std.specs.declared.cmp.Ordering.TheVariants.{Greater}
use Rattle.resh_value.specs.Order.{compare_of}
use Rattle.resh_value.specs.declared.value.Value.{Value}
use Rattle.resh_chunks.specs.Chunks.{Chunks, chunk_fault}
use Rattle.resh_bag.specs.Bag.{Bag, IsPlaced}
use Rattle.resh_coord.specs.Control.{first_clash}
use Rattle.resh_events.specs.rows.Report.{first_waiting}
use Rattle.resh_lane.specs.Lanes.{LaneOf}
use Rattle.resh_oplog.specs.declared.entry.What.{What}
use Rattle.resh_place.specs.Lanes.{HaveTakenAll, TellPart}

-- one of these `_id`s to which no other is lesser, or there is none of them
pub record IsLeast (these : Value → Type 0) (least : Option Value) : Type 0 where
  pub none : least ≡ None → (id : Value) → these id → ⊥
  pub one : (found : Value) → least ≡ Some found → these found
  pub first : (found : Value) → least ≡ Some found → (id : Value) → these id → compare_of found id ≢ Greater

-- what the first recipient noted that noted an `_id`
abbrev pub first_note : List (Option Value) → Option Value
first_note clashes = slice_index_or clashes (first_clash clashes) None

-- the recipients are the shards of the new map; the lanes of each have taken all feeds for it, which tell its part of
-- the bag, and it noted the least `_id` that waits in them
pub record AreConsistent (old_map new_map : Chunks) (bag : Bag) (lanes many : ℕ) (feeds : ℕ → ℕ → List What)
    (all : ℕ → List LaneOf) (clashes : List (Option Value)) : Type 0 where
  pub placed : IsPlaced old_map bag
  pub map : chunk_fault new_map ≡ None
  pub shards : new_map.shards ≡ many
  pub notes : length clashes ≡ many
  pub taken : (r : ℕ) → r < many → HaveTakenAll old_map lanes many (feeds r) (all r)
  pub told : (r : ℕ) → r < many → TellPart new_map bag r many (feeds r)
  pub noted : (r : ℕ) → r < many → slice_index_or clashes r None ≡ first_waiting (all r)
