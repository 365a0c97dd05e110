use Rattle.std.proofs.Common.{rules}
use Rattle.resh_mail.proofs.Steps.{forks, merges}
use Rattle.resh_mail.proofs.mailbox.Mailbox.meet.Goals as goal

pub absorb-requires-clause-rule : goal.absorb-requires-clause-rule
absorb-requires-clause-rule c = merges _ _ _ _ c.send.invariant.0 c.receive.invariant.0

pub another-other-requires-clause-rule : goal.another-other-requires-clause-rule
another-other-requires-clause-rule c = forks _ _ (search rules) (search rules)
