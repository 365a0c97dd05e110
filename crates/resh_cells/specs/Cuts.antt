-- The pieces that a link ever cut, by lane.
use Rattle.std.specs.Prelude.{◌<◌, ℕ, ◌+◌, ◌==◌, List, [], ◌∷◌, ◌++◌, find, reverse, slice_index_or, slice_set, Option}
use Rattle.std.specs.List.{AllByRecursion}
use Rattle.resh_oplog.specs.declared.piece.Piece.{Piece}

-- the pieces that were cut for a lane, in the order in which they were cut
abbrev pub cut_for : List (List Piece) → ℕ → List Piece
cut_for sent lane = slice_index_or sent lane []

-- the pieces with a part behind those of a lane
abbrev pub with_part : ℕ → List Piece → List (List Piece) → List (List Piece)
with_part lane part sent = slice_set sent lane (cut_for sent lane ++ part)

-- the pieces with parts behind those of the lanes from one on
abbrev pub joined_from : ℕ → List (List Piece) → List (List Piece) → List (List Piece)
joined_from lane sent [] = sent
joined_from lane sent (part ∷ parts) = joined_from (lane + 1) (with_part lane part sent) parts

-- each lane's pieces with a further part behind them
abbrev pub joined : List (List Piece) → List (List Piece) → List (List Piece)
joined sent parts = joined_from 0 sent parts

-- the piece of a position that was cut last, which is the first one from the end
abbrev pub last_cut : List Piece → ℕ → Option Piece
last_cut pieces position = find (λ (p : Piece). p.position == position) (reverse pieces)

-- each piece stands below a position
abbrev pub AreBelow : ℕ → List Piece → Type 0
AreBelow end pieces = AllByRecursion (λ (p : Piece). p.position < end) pieces
