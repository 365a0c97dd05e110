-- Whose setup a cluster runs.
use Rattle.std.specs.Prelude.{◌≡◌, ◌<◌, ℕ, length}
use Rattle.resh_bag.specs.Answer.{text_limit}
use Rattle.resh_shard.specs.Shards.{Shard, number_of}
use Rattle.resh_setup.specs.declared.setup.Setup.{Setup}
use Rattle.resh_cells.specs.Cells.{shard_in}
use Rattle.resh_cells.specs.declared.cluster.Cluster.{Cluster}

-- a shard of a setup has its number, both maps and the limit of stored documents
pub record IsShardOf (setup : Setup) (s : ℕ) (shard : Shard) : Type 0 where
  pub number : number_of shard ≡ s
  pub old_map : shard.old_map ≡ setup.old_map
  pub new_map : shard.new_map ≡ setup.new_map
  pub limit : shard.limit ≡ text_limit

-- a cluster of a setup has its shards
pub record IsClusterOf (setup : Setup) (cluster : Cluster) : Type 0 where
  pub count : length cluster.shards ≡ length setup.shards
  pub each : (s : ℕ) → s < length cluster.shards → IsShardOf setup s (shard_in cluster s).shard
