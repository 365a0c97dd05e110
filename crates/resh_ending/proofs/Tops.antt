-- The top of some pieces, and what is left below it, over plain numbers.
use Rattle.std.proofs.Common.{◌≡◌, ◌<◌, ◌≤◌, ℕ, suc, ◌+◌, ◌-◌, ◌*◌, Bool, true, false, cond, max, nat_le, List, [], ◌∷◌, Option, Some, None, refl, arith}
use Rattle.std.proofs.Math.Nat.{mul-le-mul_right}
use Rattle.resh_oplog.specs.declared.piece.Piece.{Piece}
use Rattle.resh_cells.specs.Cuts.{AreBelow, last_cut}
use Rattle.resh_cells.proofs.Below.{below_end}
use Rattle.resh_cells.proofs.LastCut.{none_past}
use Rattle.resh_ending.specs.Applies.{left_by, top}

below_top : (pieces : List Piece) → AreBelow (top pieces) pieces
unfolding top
below_top [] = search
below_top (p ∷ pieces) =
    (here p.position (top pieces), below_end (top pieces) (max (p.position + 1) (top pieces)) pieces (others p.position (top pieces)) (below_top pieces))
  where
    here : (a b : ℕ) → a < max (a + 1) b
    here a b = omega arith

    others : (a b : ℕ) → b ≤ max (a + 1) b
    others a b = omega arith

-- a piece that is found stands below the top
pub found_below : (pieces : List Piece) (position : ℕ) (p : Piece) → last_cut pieces position ≡ Some p → position < top pieces
found_below pieces position p found = by (nat_le (top pieces) position) refl
  where
    at_least : (a b : ℕ) → nat_le a b ≡ true → a ≤ b
    at_least a b e = grind arith

    below : (a b : ℕ) → nat_le a b ≡ false → b < a
    below a b e = grind arith

    by : (t : Bool) → nat_le (top pieces) position ≡ t → position < top pieces
    by true is =
        let none : last_cut pieces position ≡ None
        = none_past (top pieces) position pieces (below_top pieces) (at_least (top pieces) position is) in
        cc
    by false is = below (top pieces) position is

pub one_on : (calls later top at : ℕ) → later ≤ calls → at < top → left_by later top (at + 1) < left_by calls top at
unfolding left_by
one_on calls later top at le lt =
    let scaled : later * (top + 1) ≤ calls * (top + 1) = mul-le-mul_right (top + 1) le in
    sum (later * (top + 1)) (calls * (top + 1)) scaled
  where
    sum : (a b : ℕ) → a ≤ b → 1 + a + (top - (at + 1)) < 1 + b + (top - at)
    sum a b q = omega arith

pub one_back : (calls later top at back : ℕ) → later < calls → left_by later top back < left_by calls top at
unfolding left_by
one_back calls later top at back lt =
    let scaled : suc later * (top + 1) ≤ calls * (top + 1) = mul-le-mul_right (top + 1) lt in
    sum (later * (top + 1)) (calls * (top + 1)) (ranged scaled)
  where
    sum : (a b : ℕ) → a + (top + 1) ≤ b → 1 + a + (top - back) < 1 + b + (top - at)
    sum a b q = omega arith

    ranged : suc later * (top + 1) ≤ calls * (top + 1) → later * (top + 1) + (top + 1) ≤ calls * (top + 1)
    ranged q = omega (arith, q)

pub none_left : (calls top at : ℕ) → 0 < left_by calls top at
unfolding left_by
none_left calls top at = omega arith
