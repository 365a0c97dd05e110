-- What holds of the pieces of batches.
use Rattle.std.specs.Prelude.{◌≡◌, ◌<◌, ℕ, ◌+◌, true, List, ◌++◌, Some, length, map, slice_index}
use Rattle.std.specs.List.{Contains, slice_get}
use Rattle.resh_value.specs.declared.value.ShardId.{ShardId}
use Rattle.resh_oplog.specs.Logs.{id_written}
use Rattle.resh_oplog.specs.declared.entry.What.{What}
use Rattle.resh_oplog.specs.declared.piece.Piece.{Piece}
use Rattle.resh_feed.specs.Lanes.{counts_after, id_lane, lane_feed}
use Rattle.resh_fetcher.specs.Links.{LinkOf, batch_kept, cut, sent_out}
use Rattle.resh_split.specs.Parts.{pieces_from}

-- a piece is a donor's, bears its item's `_id`, and stands in its lane's part of the feed at its position
pub record IsPieceOf (lanes : ℕ) (donor : ShardId) (feed : List What) (piece : Piece) : Type 0 where
  pub whose : piece.donor ≡ donor
  pub id : id_written piece.what ≡ Some piece.id
  pub there : slice_get (lane_feed lanes (id_lane piece.id lanes) feed) piece.position ≡ Some piece.what

-- the lanes' positions are the numbers of their items before
abbrev pub CountBefore : ℕ → List ℕ → List What → Type 0
CountBefore lanes starts front =
    (lane : ℕ) → lane < lanes → slice_index starts lane ≡ length (lane_feed lanes lane front)

-- pieces of items that stand in a feed are the feed's
abbrev pub PiecesStand : Type 0
PiecesStand =
    (lanes : ℕ) (donor : ShardId) (time place : ℕ) (starts : List ℕ) (front items rest : List What)
    → 0 < lanes → length starts ≡ lanes → CountBefore lanes starts front
    → (piece : Piece) → Contains (pieces_from lanes donor time place starts items) piece
    → IsPieceOf lanes donor (front ++ (items ++ rest)) piece

-- pieces, as if they were cut at a time
abbrev pub timed : ℕ → List Piece → List Piece
timed time pieces = map (λ (piece : Piece). record piece { time = time }) pieces

-- batches that come one after another are one
pub record BatchesJoin : Type 0 where
  -- the pieces of items and of more behind them are the pieces of all
  pub pieces :
      (lanes : ℕ) (donor : ShardId) (time place : ℕ) (starts : List ℕ) (items more : List What)
      → pieces_from lanes donor time place starts (items ++ more)
      ≡ pieces_from lanes donor time place starts items
      ++ pieces_from lanes donor time (place + length items) (counts_after lanes starts items) more
  -- a piece that is cut at another time is another in this alone
  pub times :
      (lanes : ℕ) (donor : ShardId) (time other place : ℕ) (starts : List ℕ) (items : List What)
      → timed time (pieces_from lanes donor other place starts items)
      ≡ pieces_from lanes donor time place starts items
  -- the positions behind items and more are those behind all
  pub counts :
      (lanes : ℕ) (starts : List ℕ) (items more : List What)
      → counts_after lanes starts (items ++ more) ≡ counts_after lanes (counts_after lanes starts items) more
  -- once a batch is kept, the next one begins at its end
  pub place :
      (l : LinkOf) (most time : ℕ) (ends : List ℕ)
      → (batch_kept (sent_out l most ends)).kept.place ≡ l.kept.place + length (cut l most time).items
  pub starts : (l : LinkOf) (most : ℕ) (ends : List ℕ) → (batch_kept (sent_out l most ends)).kept.lanes ≡ ends
