-- A slot, and all slots of a donor, fit a feed that was taken up to a position, perhaps several times.
use Rattle.std.specs.Prelude.{◌≡◌, ◌≤◌, ℕ, List, length, take, drop, Option, None}
use Rattle.resh_value.specs.declared.value.Value.{Value}
use Rattle.resh_oplog.specs.declared.entry.What.{What}
use Rattle.resh_feed.specs.Effects.{effects_on, IsFormedSlot}
use Rattle.resh_feed.specs.Items.{Document}

-- a slot that has taken so many items of a feed, stands at a position of it, and fits the feed: from each position up
-- to its own, the rest of the items that it has taken leaves what all of them leave of nothing
pub record FitsSlot (id : Value) (feed : List What) (at high : ℕ) (slot : Option Document) : Type 0 where
  pub formed : IsFormedSlot slot
  pub again : (from : ℕ) → from ≤ at
      → effects_on id (drop from (take high feed)) slot ≡ effects_on id (take high feed) None

-- the slots of a donor, by `_id`, fit its feed
pub record FitSlots (slot : Value → Option Document) (at high : ℕ) (feed : List What) : Type 0 where
  pub reached : at ≤ high
  pub within : high ≤ length feed
  pub slots : (id : Value) → FitsSlot id feed at high (slot id)
