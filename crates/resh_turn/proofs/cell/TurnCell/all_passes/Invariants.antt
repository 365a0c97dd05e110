use Rattle.std.proofs.Common.{◌-◌, ◌≡◌, ◌<◌, ◌≤◌, []}
use Rattle.resh_turn.specs.Held.{numbered}
use Rattle.resh_turn.specs.Turns.{opening}
use Rattle.resh_turn.proofs.cell.TurnCell.all_passes.Given as goal

abbrev pub invariant-loop-number : goal.invariant-loop-number
invariant-loop-number g l =
    (0 < l.number) × (l.number ≤ l.passes)
    × (l.first.table_id ≡ l.fn.self.cell) × (l.first.me ≡ (opening l.fn.self.start l.number, []))
    × (l.all.items ≡ numbered l.fn.self 1 (l.number - 1))

abbrev pub decreases-loop-number : goal.decreases-loop-number
decreases-loop-number g l = l.passes - l.number
