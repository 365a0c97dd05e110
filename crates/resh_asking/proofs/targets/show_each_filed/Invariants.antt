use Rattle.std.proofs.Common.{ℕ, ◌<◌, get_or}
use Rattle.resh_versions.specs.Standing.{IsFiled}
use Rattle.resh_cells.specs.Cells.{shard_in}
use Rattle.resh_asking.proofs.targets.show_each_filed.Given as goal

abbrev pub invariant-loop-shard : goal.invariant-loop-shard
invariant-loop-shard l = (k : ℕ) → k < l.shard-index → IsFiled (shard_in l.cluster (get_or l.shards k 0)).shard.versions.chains
