use Rattle.std.proofs.Common.{◌≡◌, map}
use Rattle.resh_run.proofs.cluster.held.Given as goal

abbrev pub invariant-loop-document : goal.invariant-loop-document
invariant-loop-document l = l.held.items ≡ map (λ b. b.now) l.yielded
