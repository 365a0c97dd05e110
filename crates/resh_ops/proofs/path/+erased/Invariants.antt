use Rattle.std.proofs.Common.{length}
use Rattle.resh_ops.proofs.path.+erased.Given as goal

abbrev pub decreases-erased : goal.decreases-erased
decreases-erased l = length l.path.now
