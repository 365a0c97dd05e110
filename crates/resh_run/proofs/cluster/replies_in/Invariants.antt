use Rattle.std.proofs.Common.{◌≡◌, map, take}
use Rattle.resh_run.proofs.cluster.replies_in.Given as goal

abbrev pub invariant-loop-client : goal.invariant-loop-client
invariant-loop-client l = l.answers.items ≡ map (λ c. c.replies) (take l.client l.core.cluster.clients)
