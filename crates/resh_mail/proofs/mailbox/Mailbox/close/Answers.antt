use Rattle.resh_mail.proofs.Steps.{merges}
use Rattle.resh_mail.proofs.mailbox.Mailbox.close.Goals as goal

pub absorb-requires-clause-rule : goal.absorb-requires-clause-rule
absorb-requires-clause-rule g c = merges _ _ _ _ c.send.invariant.0 c.receive.invariant.0
