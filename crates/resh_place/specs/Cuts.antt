-- The pieces that a link ever cut, by lane, in its donor's feed.
use Rattle.std.specs.Prelude.{◌≡◌, ◌<◌, ℕ, List}
use Rattle.std.specs.List.{Contains}
use Rattle.resh_value.specs.declared.value.ShardId.{ShardId}
use Rattle.resh_cells.specs.Cuts.{cut_for}
use Rattle.resh_feed.specs.Lanes.{id_lane}
use Rattle.resh_lane.specs.Lanes.{end_of_positions}
use Rattle.resh_oplog.specs.declared.entry.What.{What}
use Rattle.resh_oplog.specs.declared.piece.Piece.{Piece}
use Rattle.resh_split.specs.Laws.{IsPieceOf}

-- a piece of a donor's feed, on a lane, at a position that a lane may come to
pub record IsCutFor (lanes : ℕ) (donor : ShardId) (feed : List What) (l : ℕ) (piece : Piece) : Type 0 where
  pub of : IsPieceOf lanes donor feed piece
  pub lane : id_lane piece.id lanes ≡ l
  pub below : piece.position < end_of_positions

-- each piece that was cut for a lane is one
abbrev pub AreCutFrom : ℕ → ShardId → List What → List (List Piece) → Type 0
AreCutFrom lanes donor feed sent = (l : ℕ) (piece : Piece) → Contains (cut_for sent l) piece
    → IsCutFor lanes donor feed l piece
