use Rattle.std.proofs.Common.{◌≡◌, true, false, [], ◌∷◌, ◌++◌, map}
use Rattle.resh_turn.specs.Replay.{Each}
use Rattle.resh_turn.specs.Held.{known_of}
use Rattle.resh_turn.proofs.cell.gathered.Given as goal

abbrev pub invariant-loop-pass : goal.invariant-loop-pass
invariant-loop-pass g l =
    (l.seat.table_id ≡ l.fn.table.shared.table_id) × (l.seat.me.0.live ≡ true) × (l.seat.me.0.holds ≡ false)
    × (map known_of l.fn.passes.items ≡ map known_of l.passes.items ++ (l.seat.me.0.gathered ++ l.seat.me.0.known ∷ []))
    × Each (λ pass. pass.cell ≡ l.fn.table.shared.table_id) l.passes.items

abbrev pub decreases-loop-pass : goal.decreases-loop-pass
decreases-loop-pass g l = goal.left-loop-pass g l
