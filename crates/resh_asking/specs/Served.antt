-- What is known of a command whose targets serve.
use Rattle.std.specs.Prelude.{◌≡◌, ◌<◌, length, ℕ, false, true, List, [], ◌∷◌, ◌++◌, Some}
use Rattle.resh_value.specs.Lookup.{id_of}
use Rattle.resh_value.specs.Whole.{is_whole}
use Rattle.resh_value.specs.declared.value.Value.{Value}
use Rattle.resh_value.specs.declared.value.Value.TheVariants.{Null}
use Rattle.resh_chunks.specs.Chunks.{Chunks}
use Rattle.resh_command.specs.declared.command.Command.{Command}
use Rattle.resh_command.specs.declared.command.Command.TheVariants.{Update}
use Rattle.resh_versions.specs.Chains.{Document}
use Rattle.resh_versions.specs.Standing.{IsFiled}
use Rattle.resh_shard.specs.Decisions.{answered, doing_on}
use Rattle.resh_shard.specs.Writes.{shard_id}
use Rattle.resh_shard.specs.declared.act.Act.TheVariants as act
use Rattle.resh_router.specs.Targets.{shards_of, target_of}
use Rattle.resh_router.specs.declared.goal.Target.{Target}
use Rattle.resh_model.specs.Orders.{is_abort}
use Rattle.resh_setup.specs.declared.setup.Setup.{Setup}
use Rattle.resh_cells.specs.Cells.{client_in, shard_in}
use Rattle.resh_cells.specs.declared.cell.Cell.TheVariants as named
use Rattle.resh_cells.specs.declared.cluster.Cluster.{Cluster}
use Rattle.resh_events.specs.Targets.{first_targets, next_command, shard_cells}
use Rattle.resh_asking.specs.Servings.{serving_at}
use Rattle.resh_asking.specs.Turns.{IsHeld}
use Rattle.resh_asking.specs.declared.asked.Held.{Held}
use Rattle.resh_asking.specs.declared.asked.Serving.TheVariants.{Serves}

-- where a command goes, and its shards
pub record IsGoal (chunks : Chunks) (command : Command) (goal : Target) (shards : List ℕ) : Type 0 where
  pub is : target_of chunks command ≡ Some goal
  pub are : shards ≡ shards_of chunks goal

-- a client's next command is no abort, and its first targets are these shards, which serve
pub record IsReached (setup : Setup) (cluster : Cluster) (client : ℕ) (command : Command) (shards : List ℕ)
    : Type 0 where
  pub next : next_command setup cluster client ≡ Some command
  pub plain : is_abort command ≡ false
  pub first : first_targets setup cluster client command ≡ shards
  pub serves : serving_at cluster (client_in cluster client).knows shards ≡ Serves

-- the same, and their cells are held
pub record IsServed (setup : Setup) (cluster : Cluster) (client : ℕ) (command : Command) (shards : List ℕ)
    (held : Held) : Type 0 where
  pub reached : IsReached setup cluster client command shards
  pub cells : IsHeld setup cluster (shard_cells setup shards ++ named.Client client ∷ []) held

-- an update's result leaves a shard
pub record Leaves (cluster : Cluster) (from : ℕ) (command : Command) (to : ℕ) (document : Document) : Type 0 where
  pub filed : IsFiled (shard_in cluster from).shard.versions.chains
  pub there : from < length cluster.shards
  pub leaves : answered (doing_on (shard_in cluster from).shard command) ≡ act.Leaves (shard_id to) document
  pub whole : is_whole document ≡ true

-- the cells of two shards and of the client are held, and both serve
pub record IsCarried (setup : Setup) (cluster : Cluster) (client from to : ℕ) (held : Held) : Type 0 where
  pub filed : IsFiled (shard_in cluster to).shard.versions.chains
  pub serves : serving_at cluster (client_in cluster client).knows (from ∷ to ∷ []) ≡ Serves
  pub cells : IsHeld setup cluster (shard_cells setup (from ∷ to ∷ []) ++ named.Client client ∷ []) held
  pub there : to < length cluster.shards

-- the `_id` of an update's filter
abbrev pub update_id : Command → Value
update_id (Update filter update) = id_of filter
update_id other = Null
