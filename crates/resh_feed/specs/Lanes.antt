-- The lane of an item, the positions that the lanes have come to, and a lane's part of a feed.
use Rattle.std.specs.Prelude.{ℕ, ◌+◌, ◌%◌, ◌==◌, Bool, false, List, filter, Option, Some, None, slice_index, slice_set}
use Rattle.std.specs.List.{fold, sum}
use Rattle.std.specs.Option.{option_map, option_map_or}
use Rattle.resh_value.specs.Text.{text_of}
use Rattle.resh_value.specs.declared.value.Value.{Value}
use Rattle.resh_oplog.specs.Logs.{id_written}
use Rattle.resh_oplog.specs.declared.entry.What.{What}

abbrev pub lane_of : List ℕ → ℕ → ℕ
lane_of text lanes = sum text % lanes

-- the lane of an `_id` is that of its text
abbrev pub id_lane : Value → ℕ → ℕ
id_lane id lanes = lane_of (text_of id) lanes

-- the lane of the `_id` that is written; a final entry has none
abbrev pub item_lane : ℕ → What → Option ℕ
item_lane lanes what = option_map (λ id. id_lane id lanes) (id_written what)

-- the positions with one more item on a lane
abbrev pub counted : List ℕ → Option ℕ → List ℕ
counted counts None = counts
counted counts (Some lane) = slice_set counts lane (slice_index counts lane + 1)

-- the positions behind items
abbrev pub counts_after : ℕ → List ℕ → List What → List ℕ
counts_after lanes counts whats = fold (λ before what. counted before (item_lane lanes what)) counts whats

abbrev pub is_on : ℕ → ℕ → What → Bool
is_on lanes lane what = option_map_or (λ l. l == lane) (item_lane lanes what) false

-- a lane's part of a feed, in which an item's number is its position
abbrev pub lane_feed : ℕ → ℕ → List What → List What
lane_feed lanes lane whats = filter (is_on lanes lane) whats
