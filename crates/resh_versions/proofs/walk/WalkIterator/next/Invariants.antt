use Rattle.std.proofs.Common.{◌≡◌, length}
use Rattle.resh_versions.specs.Standing.{documents_of}
use Rattle.resh_versions.proofs.walk.WalkIterator.next.Given as goal

abbrev pub invariant-loop-chain : goal.invariant-loop-chain
invariant-loop-chain l = documents_of l.self-inside.time l.self-inside.chains ≡ documents_of l.initial.self-inside.time l.initial.self-inside.chains

abbrev pub decreases-loop-chain : goal.decreases-loop-chain
decreases-loop-chain l = length l.self-inside.chains
