-- Where a command goes: to the shards that its answer needs.
use Rattle.std.specs.Prelude.{ℕ, cond, List, [], ◌∷◌, Option, Some, None}
use Rattle.resh_chunks.specs.Chunks.{Chunks, owner_of}
use Rattle.resh_command.specs.declared.command.Command.{Command}
use Rattle.resh_command.specs.declared.command.Command.TheVariants.{Insert, Update, Delete, Find, Count, Abort}
use Rattle.resh_bag.specs.Answer.{has_key}
use Rattle.resh_bag.specs.Bag.{Document}
use Rattle.resh_bag.specs.Parts.{all_shards, has_pattern}
use Rattle.resh_router.specs.declared.goal.Target.{Target}
use Rattle.resh_router.specs.declared.goal.Target.TheVariants.{One, All, NoKey}

-- the owner of a document, or of a filter's key
abbrev pub by_owner : Chunks → Document → Target
by_owner chunks document = One (record { 0 = owner_of chunks document })

-- an update or a delete asks for `_id` and the whole shard key
abbrev pub by_key : Chunks → Document → Target
by_key chunks filter = cond (has_key chunks filter) (by_owner chunks filter) NoKey

-- a find or a count goes to one shard where it has the whole shard key
abbrev pub by_pattern : Chunks → Document → Target
by_pattern chunks filter = cond (has_pattern chunks filter) (by_owner chunks filter) All

-- an abort is for no shard
abbrev pub target_of : Chunks → Command → Option Target
target_of chunks (Insert document) = Some (by_owner chunks document)
target_of chunks (Update filter update) = Some (by_key chunks filter)
target_of chunks (Delete filter) = Some (by_key chunks filter)
target_of chunks (Find filter) = Some (by_pattern chunks filter)
target_of chunks (Count filter) = Some (by_pattern chunks filter)
target_of chunks Abort = None

-- the shards of a target; what has no key is answered by shard 0
abbrev pub shards_of : Chunks → Target → List ℕ
shards_of chunks (One shard) = shard.0 ∷ []
shards_of chunks All = all_shards chunks
shards_of chunks NoKey = 0 ∷ []
