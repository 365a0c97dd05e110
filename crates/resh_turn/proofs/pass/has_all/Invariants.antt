use Rattle.std.proofs.Common.{◌≡◌}
use Rattle.resh_turn.specs.Held.{has_all}
use Rattle.resh_turn.proofs.pass.has_all.Given as goal

abbrev pub invariant-loop-left : goal.invariant-loop-left
invariant-loop-left g l = has_all l.fn.count l.fn.passes ≡ has_all l.left l.fn.passes

abbrev pub decreases-loop-left : goal.decreases-loop-left
decreases-loop-left g l = l.left
