use Rattle.resh_mail.proofs.Steps.{sends, fulls}
use Rattle.resh_mail.proofs.mailbox.Mailbox.send.Goals as goal

pub push_as-requires-clause-rule : goal.push_as-requires-clause-rule
push_as-requires-clause-rule g c = (sends _ _ _ _ c.pass.invariant.0, fulls _ _ c.pass.invariant.0)
