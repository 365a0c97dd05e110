use Rattle.resh_mail.proofs.Steps.{gets, empties}
use Rattle.resh_mail.proofs.mailbox.Mailbox.receive.Goals as goal

pub pop_as-requires-clause-rule : goal.pop_as-requires-clause-rule
pop_as-requires-clause-rule g c = (gets _ _ c.pass.invariant.0, empties _ _ c.pass.invariant.0)
