use Rattle.resh_model.proofs.orders.Switching.{switch_keeps}
use Rattle.resh_model.proofs.laws.marks_keep_the_documents.Goals as goal

pub returns-clause-switch : goal.returns-clause-switch
returns-clause-switch c = switch_keeps
