use Rattle.resh_ops.proofs.Differences.{empty_keeps}
use Rattle.resh_ops.proofs.laws.empty_change_law.Goals as goal

pub returns : goal.returns
returns c = empty_keeps
