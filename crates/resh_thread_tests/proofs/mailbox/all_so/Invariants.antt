use Rattle.std.proofs.Common.{◌≡◌}
use Rattle.resh_thread_tests.proofs.mailbox.all_so.Given as goal

abbrev pub invariant-loop-word : goal.invariant-loop-word
invariant-loop-word g l = (l.send.mailbox ≡ l.fn.mailbox.name) × (l.receive.mailbox ≡ l.fn.mailbox.name)
