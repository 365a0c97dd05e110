use Rattle.std.proofs.Common.{◌≡◌, map}
use Rattle.resh_shard.proofs.reading.first.Given as goal

abbrev pub invariant-loop-document : goal.invariant-loop-document
invariant-loop-document l = l.first.items ≡ map (λ b. b.now) l.yielded
