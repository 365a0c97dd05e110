-- What the shards' own replies say of the whole collection.
use Rattle.std.specs.Prelude.{◌≡◌, ◌<◌, ◌||◌, Bool, true, false, List, [], ◌∷◌, ◌++◌, length, map, Some, None}
use Rattle.resh_value.specs.declared.value.ShardId.{ShardId}
use Rattle.resh_chunks.specs.Chunks.{Chunks, chunk_fault}
use Rattle.resh_command.specs.declared.command.Command.{Command}
use Rattle.resh_command.specs.declared.command.Command.TheVariants.{Update, Find, Count}
use Rattle.resh_command.specs.declared.reply.Reply.{Reply}
use Rattle.resh_bag.specs.Answer.{doing, reply_of}
use Rattle.resh_bag.specs.Bag.{Bag, IsPlaced}
use Rattle.resh_bag.specs.Parts.{bag_on, places_of, targets}
use Rattle.resh_router.specs.Merging.{MergesTo, Part, are_counted, are_found}
use Rattle.resh_router.specs.Targets.{shards_of, target_of}
use Rattle.resh_router.specs.declared.goal.Target.{Target}

-- what a command does is told by the shards of its target and by those on which it does something then
abbrev pub AnswersByTarget : Type 0
AnswersByTarget = (chunks : Chunks) (bag : Bag) (command : Command) (target : Target)
    → IsPlaced chunks bag → chunk_fault chunks ≡ None → target_of chunks command ≡ Some target
    → doing chunks (bag_on chunks bag (shards_of chunks target
    ++ places_of (doing chunks (bag_on chunks bag (shards_of chunks target)) command))) command
    ≡ doing chunks bag command

abbrev pub is_update : Command → Bool
is_update (Update filter update) = true
is_update other = false

-- but for an update the shards of the target alone are enough
abbrev pub AnswersAlone : Type 0
AnswersAlone = (chunks : Chunks) (bag : Bag) (command : Command) (target : Target)
    → IsPlaced chunks bag → chunk_fault chunks ≡ None → target_of chunks command ≡ Some target
    → is_update command ≡ false
    → doing chunks (bag_on chunks bag (shards_of chunks target)) command ≡ doing chunks bag command

abbrev pub is_reading : Command → Bool
is_reading (Find filter) = true
is_reading (Count filter) = true
is_reading other = false

-- what a shard replies by its own part of the bag
abbrev pub own_reply : Chunks → Bag → Command → ShardId → Part
own_reply chunks bag command shard = (shard, reply_of (doing chunks (bag_on chunks bag (shard.0 ∷ [])) command))

-- the replies of some shards
abbrev pub own_replies : Chunks → Bag → Command → List ShardId → List Part
own_replies chunks bag command shards = map (own_reply chunks bag command) shards

-- the replies of a command's targets, each by its own part, are some, and all to a find or all to a count; what they
-- merge to is the reply of all
pub record MergesToAnswer : Type 0 where
  pub some : (chunks : Chunks) (bag : Bag) (command : Command) (shards : List ShardId)
      → chunk_fault chunks ≡ None → is_reading command ≡ true
      → map (λ shard. shard.0) shards ≡ targets chunks command
      → 0 < length (own_replies chunks bag command shards)
  pub reading : (chunks : Chunks) (bag : Bag) (command : Command) (shards : List ShardId)
      → is_reading command ≡ true
      → (are_found (own_replies chunks bag command shards)
      || are_counted (own_replies chunks bag command shards)) ≡ true
  pub answers : (chunks : Chunks) (bag : Bag) (command : Command) (shards : List ShardId) (reply : Reply)
      → IsPlaced chunks bag → chunk_fault chunks ≡ None → is_reading command ≡ true
      → map (λ shard. shard.0) shards ≡ targets chunks command
      → MergesTo (own_replies chunks bag command shards) reply → reply ≡ reply_of (doing chunks bag command)
