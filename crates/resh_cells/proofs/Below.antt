-- Pieces below a position.
use Rattle.std.proofs.Common.{◌≡◌, ◌<◌, ◌≤◌, ℕ, zero, suc, List, [], ◌∷◌, ◌++◌, take, Bool, true, false, ◌&&◌, nat_lt, refl}
use native.Mathlib.Omega.{arith}
use Rattle.std.specs.List.{list_all}
use Rattle.resh_oplog.specs.declared.piece.Piece.{Piece}
use Rattle.resh_cells.specs.Cuts.{AreBelow}

pub below_end : (end above : ℕ) (pieces : List Piece) → end ≤ above → AreBelow end pieces → AreBelow above pieces
below_end end above [] le are = are
below_end end above (p ∷ pieces) le are = (later p.position end above are.0 le, below_end end above pieces le are.1)
  where
    later : (a b c : ℕ) → a < b → b ≤ c → a < c
    later a b c lt le = omega arith

below_join : (above : ℕ) (one more : List Piece) → AreBelow above one → AreBelow above more → AreBelow above (one ++ more)
below_join above [] more are others = others
below_join above (p ∷ one) more are others = (are.0, below_join above one more are.1 others)

pub below_both : (end above : ℕ) (one more : List Piece) → end ≤ above → AreBelow end one → AreBelow above more → AreBelow above (one ++ more)
below_both end above one more le are others = below_join above one more (below_end end above one le are) others

pub below_front : (end count : ℕ) (pieces : List Piece) → AreBelow end pieces → AreBelow end (take count pieces)
below_front end zero pieces are = search
below_front end (suc count) [] are = are
below_front end (suc count) (p ∷ pieces) are = (are.0, below_front end count pieces are.1)

below_both_tests : (above : ℕ) (p : Piece) (t rest : Bool) → nat_lt p.position above ≡ t → (t && rest) ≡ true → (p.position < above) × (rest ≡ true)
below_both_tests above p true rest at both = (below at, both)
  where
    below : nat_lt p.position above ≡ true → p.position < above
    below e = grind arith
below_both_tests above p false rest at both = cc

pub below_by_test : (above : ℕ) (pieces : List Piece) → list_all (λ (p : Piece). nat_lt p.position above) pieces ≡ true → AreBelow above pieces
below_by_test above [] all = search
below_by_test above (p ∷ pieces) all =
    let both = below_both_tests above p (nat_lt p.position above) (list_all (λ (q : Piece). nat_lt q.position above) pieces) refl all in
    (both.0, below_by_test above pieces both.1)
