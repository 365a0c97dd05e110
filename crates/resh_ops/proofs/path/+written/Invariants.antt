use Rattle.std.proofs.Common.{length}
use Rattle.resh_ops.proofs.path.+written.Given as goal

abbrev pub decreases-written : goal.decreases-written
decreases-written l = length l.path.now
