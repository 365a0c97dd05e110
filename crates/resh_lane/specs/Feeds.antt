-- A lane fits the feeds of its donors.
use Rattle.std.specs.Prelude.{◌<◌, ℕ, List, length}
use Rattle.resh_chunks.specs.Chunks.{Chunks}
use Rattle.resh_oplog.specs.declared.entry.What.{What}
use Rattle.resh_feed.specs.Fits.{FitSlots}
use Rattle.resh_rules.specs.Pools.{PoolOf, held_of}
use Rattle.resh_rules.specs.Slots.{slot}
use Rattle.resh_lane.specs.Lanes.{LaneOf, number_of}

-- a donor's slots of a pool fit its feed
abbrev pub FitsFeed : Chunks → PoolOf → ℕ → ℕ → ℕ → List What → Type 0
FitsFeed old pool donor at high feed = FitSlots (λ id. slot old (held_of pool id) donor) at high feed

-- each donor's slots fit that donor's feed on this lane
pub record FitsFeeds (lane : LaneOf) (feeds : ℕ → List What) : Type 0 where
  pub each : (donor : ℕ) → donor < length lane.pool.stashes
      → FitsFeed lane.pool.chunks lane.pool donor (number_of lane.at donor) (number_of lane.high donor) (feeds donor)
