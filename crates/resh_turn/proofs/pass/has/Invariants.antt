use Rattle.std.proofs.Common.{◌≡◌, length}
use Rattle.resh_turn.specs.Held.{has}
use Rattle.resh_turn.proofs.pass.has.Given as goal

abbrev pub invariant-loop-passes : goal.invariant-loop-passes
invariant-loop-passes g l = has l.number l.fn.passes ≡ has l.number l.passes

abbrev pub decreases-loop-passes : goal.decreases-loop-passes
decreases-loop-passes g l = length l.passes
