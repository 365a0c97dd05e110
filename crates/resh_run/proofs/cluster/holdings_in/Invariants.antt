use Rattle.std.proofs.Common.{◌≡◌, map, take}
use Rattle.resh_shard.specs.Shards.{documents_of}
use Rattle.resh_run.proofs.cluster.holdings_in.Given as goal

abbrev pub invariant-loop-place : goal.invariant-loop-place
invariant-loop-place l = l.holdings.items ≡ map (λ c. documents_of c.shard) (take l.place l.core.cluster.shards)
