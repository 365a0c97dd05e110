-- What each of some shards replies to a command.
use Rattle.std.specs.Prelude.{ℕ, ◌<◌, length, List, map, slice_index, EachIndex}
use Rattle.resh_command.specs.declared.command.Command.{Command}
use Rattle.resh_command.specs.declared.reply.Reply.{Reply}
use Rattle.resh_bag.specs.Answer.{reply_of}
use Rattle.resh_versions.specs.Standing.{IsFiled}
use Rattle.resh_shard.specs.Decisions.{doing_on}
use Rattle.resh_shard.specs.Writes.{shard_id}
use Rattle.resh_router.specs.Merging.{MergesTo, Part}
use Rattle.resh_cells.specs.Cells.{shard_in}
use Rattle.resh_cells.specs.declared.cluster.Cluster.{Cluster}

abbrev pub own_part : Cluster → Command → ℕ → Part
own_part cluster command s = (shard_id s, reply_of (doing_on (shard_in cluster s).shard command))

abbrev pub own_parts : Cluster → Command → List ℕ → List Part
own_parts cluster command shards = map (own_part cluster command) shards

-- what stands on these shards stands under its own `_id`
abbrev pub AreFiled : Cluster → List ℕ → Type 0
AreFiled cluster shards =
    EachIndex shards (λ k. IsFiled (shard_in cluster (slice_index shards k)).shard.versions.chains)

-- some parts, and one reply that they make
abbrev pub Merges : List Part → Reply → Type 0
Merges parts reply = (0 < length parts) × MergesTo parts reply
