-- The pieces of a batch, and each lane's part of them.
use Rattle.std.specs.Prelude.{ℕ, ◌+◌, ◌==◌, Bool, List, [], ◌∷◌, ◌++◌, Option, Some, None, length, map, filter, take, nat_lt, ◌&&◌, slice_index, slice_index_or, slice_set}
use Rattle.std.specs.List.{fold, list_all, range_with_len}
use Rattle.resh_value.specs.Limits.{end_of_places}
use Rattle.resh_value.specs.declared.value.ShardId.{ShardId}
use Rattle.resh_value.specs.declared.value.Value.{Value}
use Rattle.resh_oplog.specs.Logs.{id_written}
use Rattle.resh_oplog.specs.declared.entry.What.{What}
use Rattle.resh_oplog.specs.declared.piece.Piece.{Piece}
use Rattle.resh_feed.specs.Feeds.{whats}
use Rattle.resh_feed.specs.Lanes.{counted, counts_after, id_lane, item_lane}
use Rattle.resh_fetcher.specs.Links.{LinkOf}
use Rattle.resh_fetcher.specs.declared.batch.Batch.{Batch}

-- the positions of a link's lanes behind the first items of its buffer
abbrev pub ends_behind : LinkOf → ℕ → List ℕ
ends_behind l most = counts_after l.lanes l.kept.lanes (take most (whats l.buffer))

-- each position is below the end of places
abbrev pub are_below_end : List ℕ → Bool
are_below_end counts = list_all (λ count. nat_lt count end_of_places) counts

-- the piece of an item that writes an `_id`, where it has a place and the lanes have positions; a final entry has none
abbrev pub pieces_of : ℕ → ShardId → ℕ → ℕ → List ℕ → What → Option Value → List Piece
pieces_of lanes donor time place counts what None = []
pieces_of lanes donor time place counts what (Some id) =
    record {
      donor = donor;
      place = place;
      position = slice_index counts (id_lane id lanes);
      time = time;
      id = id;
      what = what;
    } ∷ []

-- the pieces of items, the first of which has a place and the lanes have positions before it
abbrev pub pieces_from : ℕ → ShardId → ℕ → ℕ → List ℕ → List What → List Piece
pieces_from lanes donor time place counts [] = []
pieces_from lanes donor time place counts (what ∷ whats) =
    pieces_of lanes donor time place counts what (id_written what)
    ++ pieces_from lanes donor time (place + 1) (counted counts (item_lane lanes what)) whats

abbrev pub pieces : ℕ → Batch → List Piece
pieces lanes batch = pieces_from lanes batch.donor batch.time batch.place batch.starts batch.items

-- the batch's places, and its lanes' positions behind it, are below the end of places
abbrev pub is_below_end : ℕ → Batch → Bool
is_below_end lanes batch =
    nat_lt (batch.place + length batch.items) end_of_places
    && are_below_end (counts_after lanes batch.starts batch.items)

-- a lane's part of the pieces
abbrev pub part_of : ℕ → List Piece → ℕ → List Piece
part_of lanes all lane = filter (λ piece. id_lane piece.id lanes == lane) all

-- the part of each lane
abbrev pub parts_of : ℕ → List Piece → List (List Piece)
parts_of lanes all = map (part_of lanes all) (range_with_len 0 lanes)

-- the parts with one more piece at the end of a lane's
abbrev pub put_in : List (List Piece) → ℕ → Piece → List (List Piece)
put_in parts lane piece = slice_set parts lane (slice_index_or parts lane [] ++ piece ∷ [])

-- the parts with more pieces, each at the end of its lane's
abbrev pub put_all : ℕ → List (List Piece) → List Piece → List (List Piece)
put_all lanes parts more = fold (λ before piece. put_in before (id_lane piece.id lanes) piece) parts more
