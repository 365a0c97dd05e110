-- Pieces that a lane applies, one after another, and the feeds that it fits.
use Rattle.std.specs.Prelude.{◌≡◌, ◌<◌, ◌↔◌, ℕ, ◌+◌, ◌==◌, ⊤, true, List, [], ◌∷◌, ◌++◌, length, filter, map, max, Some, None}
use Rattle.std.specs.List.{slice_get}
use Rattle.resh_value.specs.Order.{is_same}
use Rattle.resh_value.specs.declared.value.Value.{Value}
use Rattle.resh_chunks.specs.Chunks.{Chunks}
use Rattle.resh_oplog.specs.declared.entry.What.{What}
use Rattle.resh_oplog.specs.declared.piece.Piece.{Piece}
use Rattle.resh_feed.specs.Effects.{AreFormed, effects_on}
use Rattle.resh_rules.specs.Fits.{Fits}
use Rattle.resh_rules.specs.Interleaving.{after_all, effects}
use Rattle.resh_rules.specs.Pools.{IsPool, empty_pool, held_of}
use Rattle.resh_rules.specs.Slots.{slot}
use Rattle.resh_lane.specs.Feeds.{FitsFeeds}
use Rattle.resh_lane.specs.Lanes as lanes
use Rattle.resh_lane.specs.Lanes.{IsLane, LaneOf, emptied, end_of_positions, fits, fresh, gone_back, number_of, taken}

-- the piece fits, stands at its donor's position, and is taken
pub record Takes (piece : Piece) (before after : LaneOf) : Type 0 where
  pub lane : IsLane before
  pub pool : IsPool before.pool
  pub fits : Fits before.pool piece.donor.0 piece.id piece.what
  pub here : piece.position ≡ number_of before.at piece.donor.0
  pub left : after ≡ taken piece before

abbrev pub TakesAll : List Piece → LaneOf → LaneOf → Type 0
TakesAll [] before after = IsLane before × (after ≡ before)
TakesAll (piece ∷ pieces) before after =
    (between : LaneOf) × Takes piece before between × TakesAll pieces between after

-- the entries of an `_id`, each with its donor
abbrev pub entries_of : Value → List Piece → List (ℕ × What)
entries_of id pieces = map (λ piece. (piece.donor.0, piece.what)) (filter (λ piece. is_same id piece.id) pieces)

abbrev pub pieces_of : ℕ → List Piece → List Piece
pieces_of donor pieces = filter (λ piece. piece.donor.0 == donor) pieces

-- pieces at a position, the next, and so on
abbrev pub StandFrom : ℕ → List Piece → Type 0
StandFrom position [] = ⊤
StandFrom position (piece ∷ pieces) = (piece.position ≡ position) × StandFrom (position + 1) pieces

-- what pieces make of what is held of an `_id`, of the slots, and of the positions
pub record TakesInOrder : Type 0 where
  pub held : (pieces : List Piece) (before after : LaneOf) → TakesAll pieces before after
      → (id : Value)
      → held_of after.pool id ≡ after_all before.pool.chunks (entries_of id pieces) (held_of before.pool id)
  pub slots : (pieces : List Piece) (before after : LaneOf) → TakesAll pieces before after
      → (id : Value) (donor : ℕ) → slot before.pool.chunks (held_of after.pool id) donor
      ≡ effects donor (entries_of id pieces) (slot before.pool.chunks (held_of before.pool id) donor)
  pub positions : (pieces : List Piece) (before after : LaneOf) → TakesAll pieces before after
      → (donor : ℕ) → StandFrom (number_of before.at donor) (pieces_of donor pieces)
  pub at : (pieces : List Piece) (before after : LaneOf) → TakesAll pieces before after
      → (donor : ℕ) → number_of after.at donor ≡ number_of before.at donor + length (pieces_of donor pieces)
  pub high : (pieces : List Piece) (before after : LaneOf) → TakesAll pieces before after
      → (donor : ℕ) → number_of after.high donor ≡ max (number_of before.high donor) (number_of after.at donor)

-- a lane goes on fitting the feeds of its donors
pub record GoesOnFitting : Type 0 where
  -- a new lane fits any
  pub begun : (old : Chunks) (donors : ℕ) (feeds : ℕ → List What)
      → FitsFeeds (fresh (empty_pool old donors) donors) feeds
  -- with the item of a feed at its position
  pub next : (piece : Piece) (before after : LaneOf) (feeds : ℕ → List What) → Takes piece before after
      → AreFormed (feeds piece.donor.0) → slice_get (feeds piece.donor.0) piece.position ≡ Some piece.what
      → FitsFeeds before feeds → FitsFeeds after feeds
  -- back at any position
  pub back : (lane : LaneOf) (donor position : ℕ) (feeds : ℕ → List What) → IsLane lane
      → FitsFeeds lane feeds → FitsFeeds (gone_back donor position lane) feeds
  -- once feeds are longer
  pub longer : (lane : LaneOf) (feeds more : ℕ → List What)
      → FitsFeeds lane feeds → FitsFeeds lane (λ donor. feeds donor ++ more donor)
  -- at the end of a feed, once all of it was taken, the donor's slots are what it leaves of nothing
  pub ended : (lane : LaneOf) (feeds : ℕ → List What) (donor : ℕ) (id : Value) → donor < length lane.pool.stashes
      → number_of lane.at donor ≡ length (feeds donor) → FitsFeeds lane feeds
      → slot lane.pool.chunks (held_of lane.pool id) donor ≡ effects_on id (feeds donor) None

-- the test of what may be given to a lane
abbrev pub FitsByTest : Type 0
FitsByTest = (lane : LaneOf) (piece : Piece) → (fits lane piece ≡ true) ↔ lanes.Fits lane piece

-- a lane stays one
pub record StaysLane : Type 0 where
  pub begun : (old : Chunks) (donors : ℕ) → IsLane (fresh (empty_pool old donors) donors)
  pub next : (piece : Piece) (before after : LaneOf) → Takes piece before after → piece.position < end_of_positions
      → IsLane after × IsPool after.pool
  pub back : (lane : LaneOf) (donor position : ℕ) → IsLane lane → IsLane (gone_back donor position lane)
  pub done : (lane : LaneOf) → IsLane lane → IsLane (emptied lane)
