-- What holds of a recipient's lanes, of its part of the bag, of the mark, and of the pieces that links cut.
use Rattle.std.specs.Prelude.{◌≡◌, ◌<◌, ◌↔◌, ◌==◌, ℕ, true, false, List, [], ◌++◌, length, replicate, Option, None, Some}
use Rattle.std.specs.List.Sorted.{IsPermutation}
use Rattle.resh_value.specs.declared.value.ShardId.{ShardId}
use Rattle.resh_value.specs.declared.value.Value.{Value}
use Rattle.resh_chunks.specs.Chunks.{Chunks}
use Rattle.resh_bag.specs.Bag.{Bag, IsPlaced, documents, held, opening_bag}
use Rattle.resh_bag.specs.Placement.{HasNoClash, IsClash, IsFirstClash, part}
use Rattle.resh_cells.specs.declared.cluster.LinkCell.{LinkCell}
use Rattle.resh_coord.specs.Control.{Control, decided_by_clashes, first_clash}
use Rattle.resh_events.specs.Turns.{mark_of}
use Rattle.resh_events.specs.rows.Cut.{batch_at, cut_at}
use Rattle.resh_events.specs.rows.Tell.{outputs, with_outputs}
use Rattle.resh_feed.specs.Feeds.{whats}
use Rattle.resh_feed.specs.Lanes.{id_lane}
use Rattle.resh_lane.specs.Lanes.{LaneOf}
use Rattle.resh_model.specs.Orders.{AllowsAll, State, undecided}
use Rattle.resh_oplog.specs.declared.entry.What.{What}
use Rattle.resh_oplog.specs.declared.piece.Piece.{Piece}
use Rattle.resh_place.specs.Cuts.{AreCutFrom}
use Rattle.resh_place.specs.Lanes.{HaveTakenAll, TellPart, held_at, held_in}
use Rattle.resh_place.specs.Notes.{AreConsistent, first_note}
use Rattle.resh_place.specs.Parts.{HoldsPart, IsNothing, Waits, comes_from}
use Rattle.resh_rules.specs.Held.{Held}
use Rattle.resh_rules.specs.Slots.{StandsFor}
use Rattle.resh_setup.specs.declared.setup.Setup.{Setup}
use Rattle.resh_shard.specs.Shards.{Shard}
use Rattle.resh_split.specs.Laws.{CountBefore}
use Rattle.resh_split.specs.Parts.{is_below_end}
use Rattle.resh_versions.specs.Standing.{now}

-- lanes that have taken all feeds whole
pub record TakeTheirParts : Type 0 where
  -- hold the recipient's part of the bag, where the feeds tell it
  pub part : (old_map new_map : Chunks) (bag : Bag) (r lanes donors : ℕ) (feeds : ℕ → List What) (all : List LaneOf)
      → IsPlaced old_map bag → TellPart new_map bag r donors feeds → HaveTakenAll old_map lanes donors feeds all
      → HoldsPart old_map new_map bag r (held_in lanes all)
  -- and each of them nothing of another lane's `_id`s
  pub others : (old_map : Chunks) (lanes donors : ℕ) (feeds : ℕ → List What) (all : List LaneOf)
      → HaveTakenAll old_map lanes donors feeds all
      → (l : ℕ) (id : Value) → l < lanes → (id_lane id lanes == l) ≡ false → IsNothing (held_at all l id)

-- what is held as a part
pub record PartsStand : Type 0 where
  -- stands for the bag's documents that come to the shard, by their old owners
  pub stands : (old_map new_map : Chunks) (bag : Bag) (shard : ℕ) (at : Value → Held)
      → HoldsPart old_map new_map bag shard at
      → (id : Value) → StandsFor (λ donor. comes_from new_map bag shard donor id) (at id)
  -- a document waits exactly where a clash stands
  pub clashes : (old_map new_map : Chunks) (bag : Bag) (shard : ℕ) (at : Value → Held)
      → HoldsPart old_map new_map bag shard at
      → (id : Value) → Waits (at id) ↔ IsClash new_map bag shard id
  -- and where none stands, the output is what the shard has once the new map is in force
  pub output : (old_map new_map : Chunks) (bag : Bag) (shard : ℕ) (at : Value → Held)
      → IsPlaced old_map bag → HasNoClash new_map bag → HoldsPart old_map new_map bag shard at
      → (id : Value) → (at id).output ≡ held (opening_bag new_map (documents bag)) shard id

-- the lanes' outputs together
pub record OutputsAreParts : Type 0 where
  -- a shard that installs them has of each `_id` the output of its lane
  pub installed : (old_map : Chunks) (lanes donors : ℕ) (feeds : ℕ → List What) (all : List LaneOf)
      → HaveTakenAll old_map lanes donors feeds all → (time : ℕ) (shard : Shard) (id : Value)
      → now (with_outputs time (outputs all) shard).versions id ≡ (held_in lanes all id).output
  -- where no clash stands they are the recipient's part of the bag
  pub part : (old_map new_map : Chunks) (bag : Bag) (r lanes donors : ℕ) (feeds : ℕ → List What) (all : List LaneOf)
      → IsPlaced old_map bag → HasNoClash new_map bag → TellPart new_map bag r donors feeds
      → HaveTakenAll old_map lanes donors feeds all
      → IsPermutation (part new_map bag r) (outputs all)

-- what consistent recipients noted decides the mark
pub record NotesDecide : Type 0 where
  -- none noted an `_id` exactly where no clash stands
  pub none : (old_map new_map : Chunks) (bag : Bag) (lanes many : ℕ) (feeds : ℕ → ℕ → List What)
      (all : ℕ → List LaneOf) (clashes : List (Option Value))
      → AreConsistent old_map new_map bag lanes many feeds all clashes
      → (first_note clashes ≡ None) ↔ HasNoClash new_map bag
  -- else the first note is the first clash
  pub first : (old_map new_map : Chunks) (bag : Bag) (lanes many : ℕ) (feeds : ℕ → ℕ → List What)
      (all : ℕ → List LaneOf) (clashes : List (Option Value))
      → AreConsistent old_map new_map bag lanes many feeds all clashes
      → (id : Value) → first_note clashes ≡ Some id → IsFirstClash new_map bag (first_clash clashes) id
  -- so the mark that the coordinator decides may come
  pub mark : (setup : Setup) (state : State) (control : Control) (lanes many : ℕ) (feeds : ℕ → ℕ → List What)
      (all : ℕ → List LaneOf) → state.fate ≡ undecided
      → AreConsistent setup.old_map setup.new_map state.bag lanes many feeds all control.clashes
      → AllowsAll setup state (mark_of None (decided_by_clashes control).decision)

-- what a link cut stands in its donor's feed
pub record CutsStand : Type 0 where
  -- it cut nothing at first
  pub begun : (lanes many : ℕ) (donor : ShardId) (feed : List What) → AreCutFrom lanes donor feed (replicate many [])
  -- with a batch of its buffer, where that stands behind what is kept
  pub next : (cell : LinkCell) (time : ℕ) (front rest : List What)
      → 0 < cell.link.lanes → length cell.link.kept.lanes ≡ cell.link.lanes
      → CountBefore cell.link.lanes cell.link.kept.lanes front
      → is_below_end cell.link.lanes (batch_at time cell.link) ≡ true
      → AreCutFrom cell.link.lanes cell.link.donor (front ++ (whats cell.link.buffer ++ rest)) cell.sent
      → AreCutFrom cell.link.lanes cell.link.donor (front ++ (whats cell.link.buffer ++ rest)) (cut_at time cell).sent
  -- and once the feed is longer
  pub longer : (lanes : ℕ) (donor : ShardId) (feed more : List What) (sent : List (List Piece))
      → AreCutFrom lanes donor feed sent → AreCutFrom lanes donor (feed ++ more) sent
