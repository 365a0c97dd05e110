use Rattle.std.proofs.Common.{◌≡◌}
use Rattle.resh_turn_bench.proofs.turns.turned.Given as goal

abbrev pub invariant-loop-left : goal.invariant-loop-left
invariant-loop-left g l = l.pass.cell ≡ l.fn.cell.cell

abbrev pub decreases-loop-left : goal.decreases-loop-left
decreases-loop-left g l = l.left
