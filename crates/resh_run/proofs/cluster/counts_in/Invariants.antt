use Rattle.std.proofs.Common.{◌≡◌, length, map, take}
use Rattle.resh_shard.specs.Shards.{documents_of}
use Rattle.resh_run.proofs.cluster.counts_in.Given as goal

abbrev pub invariant-loop-place : goal.invariant-loop-place
invariant-loop-place l = l.counts.items ≡ map (λ c. length (documents_of c.shard)) (take l.place l.core.cluster.shards)
