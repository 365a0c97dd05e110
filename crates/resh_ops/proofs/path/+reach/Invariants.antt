use Rattle.std.proofs.Common.{length}
use Rattle.resh_ops.proofs.path.+reach.Given as goal

abbrev pub decreases-reach : goal.decreases-reach
decreases-reach l = length l.path.now
