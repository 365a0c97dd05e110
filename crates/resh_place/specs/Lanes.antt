-- A recipient's lanes that have taken every feed whole.
use Rattle.std.specs.Prelude.{◌≡◌, ◌<◌, ℕ, List, length, None, slice_index_or}
use Rattle.resh_value.specs.declared.value.Value.{Value}
use Rattle.resh_chunks.specs.Chunks.{Chunks, chunk_fault}
use Rattle.resh_bag.specs.Bag.{Bag}
use Rattle.resh_cells.specs.Cells.{no_lane}
use Rattle.resh_feed.specs.Effects.{effects_on}
use Rattle.resh_feed.specs.Lanes.{id_lane, lane_feed}
use Rattle.resh_feed.specs.Laws.{AllWhole}
use Rattle.resh_lane.specs.Feeds.{FitsFeeds}
use Rattle.resh_lane.specs.Lanes.{LaneOf, number_of}
use Rattle.resh_oplog.specs.declared.entry.What.{What}
use Rattle.resh_place.specs.Parts.{comes_from}
use Rattle.resh_rules.specs.Held.{Held}
use Rattle.resh_rules.specs.Pools.{IsPool, held_of}

-- what a lane of a recipient holds of an `_id`
abbrev pub held_at : List LaneOf → ℕ → Value → Held
held_at all l id = held_of (slice_index_or all l no_lane).pool id

-- what a recipient holds of an `_id`: what the lane of the `_id` does
abbrev pub held_in : ℕ → List LaneOf → Value → Held
held_in lanes all id = held_at all (id_lane id lanes) id

-- a lane fits its parts of the donors' feeds, and stands at their ends
pub record HasTakenAll (old_map : Chunks) (lanes donors l : ℕ) (feeds : ℕ → List What) (lane : LaneOf) : Type 0 where
  pub pool : IsPool lane.pool
  pub chunks : lane.pool.chunks ≡ old_map
  pub stashes : length lane.pool.stashes ≡ donors
  pub fits : FitsFeeds lane (λ donor. lane_feed lanes l (feeds donor))
  pub ended : (donor : ℕ) → donor < donors → number_of lane.at donor ≡ length (lane_feed lanes l (feeds donor))

-- the donors are the shards of the old map, and each lane of a recipient has taken the whole of their feeds for it
pub record HaveTakenAll (old_map : Chunks) (lanes donors : ℕ) (feeds : ℕ → List What) (all : List LaneOf) : Type 0 where
  pub map : chunk_fault old_map ≡ None
  pub shards : old_map.shards ≡ donors
  pub some_lane : 0 < lanes
  pub many : length all ≡ lanes
  pub each : (l : ℕ) → l < lanes → HasTakenAll old_map lanes donors l feeds (slice_index_or all l no_lane)
  pub whole : (donor : ℕ) → donor < donors → AllWhole (feeds donor)

-- the feeds for a recipient tell what of the bag comes to it
abbrev pub TellPart : Chunks → Bag → ℕ → ℕ → (ℕ → List What) → Type 0
TellPart new_map bag r donors feeds = (donor : ℕ) → donor < donors
    → (id : Value) → effects_on id (feeds donor) None ≡ comes_from new_map bag r donor id
