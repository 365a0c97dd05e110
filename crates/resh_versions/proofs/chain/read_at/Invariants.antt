use Rattle.std.proofs.Common.{◌≡◌, ◌≤◌, length}
use Rattle.resh_versions.specs.Chains.{chain_at}
use Rattle.resh_versions.proofs.chain.read_at.Given as goal

abbrev pub invariant-loop-rest : goal.invariant-loop-rest
invariant-loop-rest l = record { within : length l.rest ≤ length l.versions; read : chain_at l.time l.rest ≡ chain_at l.time l.versions }

abbrev pub decreases-loop-rest : goal.decreases-loop-rest
decreases-loop-rest l = length l.rest
