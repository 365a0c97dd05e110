use Rattle.std.proofs.Common.{◌≡◌, vec_len}
use Rattle.resh_thread_tests.proofs.round.jobs.Given as goal

abbrev pub invariant-loop : goal.invariant-loop
invariant-loop l = vec_len l.jobs ≡ l.counter
