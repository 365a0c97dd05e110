-- A part put behind a lane's pieces and taken away again.
use Rattle.std.proofs.Common.{◌≡◌, ℕ, zero, suc, List, [], ◌∷◌, ◌++◌, length, take, slice_set, refl, ap}
use Rattle.resh_oplog.specs.declared.piece.Piece.{Piece}
use Rattle.resh_cells.specs.Cuts.{cut_for, with_part}

taken_back : {X : Type 0} (xs ys : List X) → take (length xs) (xs ++ ys) ≡ xs
taken_back [] ys = refl
taken_back (x ∷ xs) ys = ap (λ l. x ∷ l) (taken_back xs ys)

-- the lane's pieces are cut to as many as there were
pub put_back : (sent : List (List Piece)) (lane : ℕ) (part : List Piece)
    → slice_set (with_part lane part sent) lane (take (length (cut_for sent lane)) (cut_for (with_part lane part sent) lane)) ≡ sent
put_back [] lane part = refl
put_back (pieces ∷ sent) zero part = ap (λ l. l ∷ sent) (taken_back pieces part)
put_back (pieces ∷ sent) (suc lane) part = ap (λ l. pieces ∷ l) (put_back sent lane part)
