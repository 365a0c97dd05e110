-- What holds of feeds, of their lanes' parts, and of slots that take their items, perhaps again.
use Rattle.std.specs.Prelude.{◌≡◌, ◌≤◌, ◌<◌, ◌+◌, ◌==◌, ℕ, ⊤, true, false, max, List, [], ◌∷◌, ◌++◌, length, map, take, Option, Some, None, slice_index}
use Rattle.std.specs.List.{AllByRecursion, slice_get}
use Rattle.std.specs.List.Sorted.{IsStrictlySortedBy}
use Rattle.resh_value.specs.Lookup.{id_of}
use Rattle.resh_value.specs.Order.{compare_of}
use Rattle.resh_value.specs.declared.value.Value.{Value}
use Rattle.resh_oplog.specs.Logs.{AreMarked, IsRising, id_written, is_whole, later_entries}
use Rattle.resh_oplog.specs.declared.entry.Entry.{Entry}
use Rattle.resh_oplog.specs.declared.entry.What.{What}
use Rattle.resh_feed.specs.Effects.{AreFormed, IsFormed, IsFormedSlot, effects_on, turn}
use Rattle.resh_feed.specs.Feeds.{next_documents, next_entries}
use Rattle.resh_feed.specs.Fits.{FitsSlot}
use Rattle.resh_feed.specs.Items.{Document, has_final, up_to_final}
use Rattle.resh_feed.specs.Lanes.{counts_after, id_lane, lane_feed}

-- an item that comes again before items among which it stands changes nothing of what they leave
abbrev pub Absorbs : Type 0
Absorbs = (id : Value) (items : List What) (place : ℕ) (item : What) (slot : Option Document)
    → AreFormed items → IsFormedSlot slot → slice_get items place ≡ Some item
    → effects_on id items (turn id item slot) ≡ effects_on id items slot

-- a slot goes on fitting its feed
pub record GoesOnFitting : Type 0 where
  -- an empty slot fits any feed at its beginning
  pub empty : (id : Value) (feed : List What) → FitsSlot id feed 0 0 None
  -- with the item at its position
  pub next : (id : Value) (feed : List What) (at high : ℕ) (slot : Option Document) (item : What)
      → AreFormed feed → at ≤ high → high ≤ length feed → slice_get feed at ≡ Some item
      → FitsSlot id feed at high slot → FitsSlot id feed (at + 1) (max high (at + 1)) (turn id item slot)
  -- at any earlier position
  pub back : (id : Value) (feed : List What) (at high back : ℕ) (slot : Option Document)
      → back ≤ at → FitsSlot id feed at high slot → FitsSlot id feed back high slot
  -- once the feed is longer
  pub longer : (id : Value) (feed more : List What) (at high : ℕ) (slot : Option Document)
      → high ≤ length feed → FitsSlot id feed at high slot → FitsSlot id (feed ++ more) at high slot
  -- at the end it is what the whole feed leaves of nothing
  pub ended : (id : Value) (feed : List What) (at high : ℕ) (slot : Option Document)
      → at ≡ length feed → high ≡ length feed → FitsSlot id feed at high slot → slot ≡ effects_on id feed None

-- what each item writes is whole
abbrev pub AllWhole : List What → Type 0
AllWhole whats = AllByRecursion (λ what. is_whole what ≡ true) whats

-- the names of what is whole rise
abbrev pub WholeIsFormed : Type 0
WholeIsFormed = (whats : List What) → AllWhole whats → AreFormed whats

-- a lane's part of a feed
pub record PartsByLane : Type 0 where
  -- it has the effects of the whole feed on the slots of the lane's `_id`s
  pub own : (id : Value) (lanes : ℕ) (whats : List What) (slot : Option Document)
      → AllWhole whats → effects_on id (lane_feed lanes (id_lane id lanes) whats) slot ≡ effects_on id whats slot
  -- and none on others
  pub others : (id : Value) (lanes lane : ℕ) (whats : List What) (slot : Option Document)
      → AllWhole whats → (id_lane id lanes == lane) ≡ false
      → effects_on id (lane_feed lanes lane whats) slot ≡ slot
  -- a lane's position is the number of its items
  pub counts : (lanes lane : ℕ) (whats : List What) (starts : List ℕ) → length starts ≡ lanes → lane < lanes
      → slice_index (counts_after lanes starts whats) lane
      ≡ slice_index starts lane + length (lane_feed lanes lane whats)
  -- at which an item stands
  pub place : (id : Value) (lanes : ℕ) (front : List What) (what : What) (rest : List What) → id_written what ≡ Some id
      → slice_get (lane_feed lanes (id_lane id lanes) (front ++ what ∷ rest))
      (length (lane_feed lanes (id_lane id lanes) front)) ≡ Some what

-- reading goes on behind what was read
pub record ReadsOn : Type 0 where
  -- in the clone part, whose documents rise by `_id`
  pub documents : (read rest : List Document) → IsStrictlySortedBy compare_of (map id_of (read ++ rest))
      → next_documents read (read ++ rest) ≡ rest
  -- and in the log, before a final entry for the recipient was read
  pub entries : (recipient fetch_time most : ℕ) (log read rest : List Entry)
      → IsRising log → AreMarked log
      → up_to_final (later_entries fetch_time recipient log) ≡ read ++ rest → has_final read ≡ false
      → up_to_final (take most (next_entries recipient fetch_time read log)) ≡ take most rest
