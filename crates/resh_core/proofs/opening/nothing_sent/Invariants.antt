use Rattle.std.proofs.Common.{◌≡◌, [], replicate}
use Rattle.resh_core.proofs.opening.nothing_sent.Given as goal

abbrev pub invariant-loop : goal.invariant-loop
invariant-loop l = l.sent.items ≡ replicate l.counter []
