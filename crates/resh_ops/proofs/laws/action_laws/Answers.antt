use Rattle.resh_ops.proofs.ActionLaws.{set_reads_back, keeps_unrelated}
use Rattle.resh_ops.proofs.laws.action_laws.Goals as goal

pub returns-clause-set : goal.returns-clause-set
returns-clause-set c = set_reads_back

pub returns-clause-unrelated : goal.returns-clause-unrelated
returns-clause-unrelated c = keeps_unrelated
