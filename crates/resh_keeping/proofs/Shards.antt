-- What each call leaves of a shard's number, maps and limit.
use Rattle.std.proofs.Common.{ℕ, Bool, true, false, cond, List, [], ◌∷◌, Option, Some, None}
use Rattle.std.specs.Prelude.{is_some}
use Rattle.std.specs.List.{fold}
use Rattle.resh_value.specs.Lookup.{id_of}
use Rattle.resh_value.specs.declared.value.Value.{Value}
use Rattle.resh_stamp.specs.declared.stamp.Stamp.{Stamp}
use Rattle.resh_bag.specs.Answer.{Doing}
use Rattle.resh_versions.specs.Chains.{Document}
use Rattle.resh_versions.specs.Standing.{now}
use Rattle.resh_shard.specs.Decisions.{decided, done, done_by}
use Rattle.resh_shard.specs.Shards.{Shard, taken_in, taken_out, taken_out_at, with_loaded, wrote}
use Rattle.resh_shard.specs.declared.act.Decision.{Decision}
use Rattle.resh_shard.specs.declared.act.Decision.TheVariants.{Writes, Leaves, Says}
use Rattle.resh_shard.specs.declared.act.Write.TheVariants.{Puts}
use Rattle.resh_setup.specs.declared.setup.Setup.{Setup}
use Rattle.resh_cells.specs.Belonging.{IsShardOf}

pub done_keeps : (setup : Setup) (s : ℕ) (stamp : Stamp) (doing : Doing) (shard : Shard) → IsShardOf setup s shard
    → IsShardOf setup s (done stamp doing shard)
done_keeps setup s stamp doing shard is = by (decided shard doing)
  where
    by : (x : Decision) → IsShardOf setup s (done_by stamp x shard)
    by (Writes w reply) = record { number = is.number; old_map = is.old_map; new_map = is.new_map; limit = is.limit }
    by (Leaves to d) = is
    by (Says reply) = is

pub taken_in_keeps : (setup : Setup) (s : ℕ) (stamp : Stamp) (d : Document) (shard : Shard) → IsShardOf setup s shard
    → IsShardOf setup s (taken_in stamp d shard)
taken_in_keeps setup s stamp d shard is = by (is_some (now shard.versions (id_of d)))
  where
    by : (t : Bool) → IsShardOf setup s (cond t shard (wrote stamp 1 (Puts d) shard))
    by true = is
    by false = record { number = is.number; old_map = is.old_map; new_map = is.new_map; limit = is.limit }

pub taken_out_keeps : (setup : Setup) (s : ℕ) (stamp : Stamp) (id : Value) (shard : Shard) → IsShardOf setup s shard
    → IsShardOf setup s (taken_out stamp id shard)
taken_out_keeps setup s stamp id shard is = by (now shard.versions id)
  where
    by : (found : Option Document) → IsShardOf setup s (taken_out_at stamp found shard)
    by None = is
    by (Some d) = record { number = is.number; old_map = is.old_map; new_map = is.new_map; limit = is.limit }

pub loaded_keeps : (setup : Setup) (s : ℕ) (documents : List Document) (shard : Shard) → IsShardOf setup s shard
    → IsShardOf setup s (fold with_loaded shard documents)
loaded_keeps setup s [] shard is = is
loaded_keeps setup s (d ∷ documents) shard is =
    loaded_keeps setup s documents (with_loaded shard d)
    (record { number = is.number; old_map = is.old_map; new_map = is.new_map; limit = is.limit })
