use Rattle.resh_ops.proofs.ActionLaws.{keeps_id, actions_keep_id}
use Rattle.resh_ops.proofs.laws.id_laws.Goals as goal

pub returns-clause-updates : goal.returns-clause-updates
returns-clause-updates c = keeps_id

pub returns-clause-actions : goal.returns-clause-actions
returns-clause-actions c = actions_keep_id
