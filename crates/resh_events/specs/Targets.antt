-- Which shards a client's next command is for, and what it does there.
use Rattle.std.specs.Prelude.{ℕ, ◌==◌, Bool, true, false, not, ◌&&◌, cond, List, [], ◌∷◌, ◌++◌, filter, length, map, slice_get, Option}
use Rattle.std.specs.List.{list_all, range_with_len}
use Rattle.resh_chunks.specs.Chunks.{Chunks}
use Rattle.resh_command.specs.declared.command.Command.{Command}
use Rattle.resh_bag.specs.Answer.{Doing, adds, replaces, removes, says, doing}
use Rattle.resh_bag.specs.Bag.{Document}
use Rattle.resh_bag.specs.Parts.{bag_over, is_among, targets}
use Rattle.resh_shard.specs.Shards.{documents_of, map_by}
use Rattle.resh_shard.specs.declared.act.Which.{Which}
use Rattle.resh_shard.specs.declared.act.Which.TheVariants.{Old, New}
use Rattle.resh_model.specs.Orders.{commands_of}
use Rattle.resh_setup.specs.declared.setup.Setup.{Setup}
use Rattle.resh_cells.specs.Cells.{client_in, shard_in}
use Rattle.resh_cells.specs.declared.cluster.Cluster.{Cluster}
use Rattle.resh_cells.specs.declared.cluster.ShardCell.{ShardCell}
use Rattle.resh_cells.specs.declared.cell.Cell.{Cell}
use Rattle.resh_cells.specs.declared.cell.Cell.TheVariants as named

abbrev pub documents_at : Cluster → ℕ → List Document
documents_at cluster s = documents_of (shard_in cluster s).shard

abbrev pub same_map : Which → Which → Bool
same_map Old Old = true
same_map Old New = false
same_map New Old = false
same_map New New = true

abbrev pub all_at : Cluster → (ShardCell → Bool) → List ℕ → Bool
all_at cluster passes shards = list_all (λ s. passes (shard_in cluster s)) shards

-- no writes are blocked there
abbrev pub is_free : ShardCell → Bool
is_free cell = not cell.shard.blocked

-- it serves under the map
abbrev pub has_map : Which → ShardCell → Bool
has_map which cell = same_map cell.shard.which which

-- all of some shards serve, and under the map
abbrev pub serve : Cluster → Which → List ℕ → Bool
serve cluster which shards = all_at cluster is_free shards && all_at cluster (has_map which) shards

-- the owner of an update's result, where it is another shard
abbrev pub leaves_to : Doing → List ℕ
leaves_to (replaces s d t e) = cond (t == s) [] (t ∷ [])
leaves_to (adds s d) = []
leaves_to (removes s d) = []
leaves_to (says reply) = []

module _ (setup : Setup) (cluster : Cluster) where
  -- a client's next command, where it has one left
  abbrev pub next_command : ℕ → Option Command
  next_command c =
      slice_get (commands_of (slice_get setup.clients c)) (length (client_in cluster c).replies)

  -- the map that a client knows
  abbrev pub known_map : ℕ → Chunks
  known_map c = map_by (client_in cluster c).knows setup.old_map setup.new_map

  -- what a command does by what some shards hold
  abbrev pub doing_by : ℕ → List ℕ → Command → Doing
  doing_by c shards command = doing (known_map c) (bag_over (documents_at cluster) shards) command

  -- the shards to which it goes first
  abbrev pub first_targets : ℕ → Command → List ℕ
  first_targets c command = targets (known_map c) command

  -- the other shard to which an update's result belongs, once the first targets serve under the map that the client
  -- knows
  abbrev pub move_targets : ℕ → Command → List ℕ
  move_targets c command =
      cond (serve cluster (client_in cluster c).knows (first_targets c command))
      (leaves_to (doing_by c (first_targets c command) command)) []

  -- its targets: the first ones, and the owner of an update's result
  abbrev pub all_targets : ℕ → Command → List ℕ
  all_targets c command = first_targets c command ++ move_targets c command

  -- what it does, by what its targets hold
  abbrev pub doing_of : ℕ → Command → Doing
  doing_of c command = doing_by c (all_targets c command) command

-- the cells of some shards, each once, by rising number
abbrev pub shard_cells : Setup → List ℕ → List Cell
shard_cells setup shards = map named.Shard (filter (is_among shards) (range_with_len 0 (length setup.shards)))
