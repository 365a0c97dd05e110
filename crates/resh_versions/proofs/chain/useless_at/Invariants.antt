use Rattle.std.proofs.Common.{length}
use Rattle.resh_versions.proofs.ChainLaws.{Walked}
use Rattle.resh_versions.proofs.chain.useless_at.Given as goal

abbrev pub invariant-loop-rest : goal.invariant-loop-rest
invariant-loop-rest l = Walked l.time l.versions l.rest

abbrev pub decreases-loop-rest : goal.decreases-loop-rest
decreases-loop-rest l = length l.rest
