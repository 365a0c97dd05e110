use Rattle.std.proofs.Common.{◌≡◌, length}
use Rattle.resh_run.proofs.cluster.count_of.Given as goal

abbrev pub invariant-loop : goal.invariant-loop
invariant-loop l = l.count ≡ length l.yielded
