use Rattle.std.proofs.Common.{◌≡◌}
use Rattle.resh_thread_tests.proofs.mailbox.sent_all.Given as goal

abbrev pub invariant-loop-looks : goal.invariant-loop-looks
invariant-loop-looks g l = l.pass.mailbox ≡ l.fn.mailbox.name

abbrev pub decreases-loop-looks : goal.decreases-loop-looks
decreases-loop-looks g l = l.looks
