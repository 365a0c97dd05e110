use Rattle.std.proofs.Common.{◌≡◌}
use Rattle.resh_thread_tests.proofs.pair.worked.Given as goal

abbrev pub invariant-loop-left : goal.invariant-loop-left
invariant-loop-left g l = (l.hand.first.cell ≡ l.fn.cells.first.cell) × (l.hand.second.cell ≡ l.fn.cells.second.cell)

abbrev pub decreases-loop-left : goal.decreases-loop-left
decreases-loop-left g l = l.left
