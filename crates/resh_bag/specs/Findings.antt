-- What a command has found in the bag where it does more than say a reply.
use Rattle.std.specs.Prelude.{◌≡◌, ◌⊎◌, ℕ, true, List, Some, None, Ok}
use Rattle.resh_chunks.specs.Chunks.{Chunks, owner_of}
use Rattle.resh_filter.specs.Filters.{matches}
use Rattle.resh_ops.specs.Updates.{updated}
use Rattle.resh_ops.specs.declared.operator.Action.{Action}
use Rattle.resh_command.specs.declared.command.Command.{Command}
use Rattle.resh_command.specs.declared.command.Command.TheVariants.{Insert, Update, Delete}
use Rattle.resh_value.specs.Lookup.{id_of}
use Rattle.resh_bag.specs.Bag.{Bag, Document, held}
use Rattle.resh_bag.specs.Answer.{adds, replaces, removes, doing, text_limit}

-- the filter's document on the shard of its key
pub record IsHit (chunks : Chunks) (bag : Bag) (filter : Document) (shard : ℕ) (document : Document) : Type 0 where
  pub owner : shard ≡ owner_of chunks filter
  pub there : held bag shard (id_of filter) ≡ Some document
  pub passes : matches filter document ≡ true

-- an insert, whose document comes to its owner, which held no other of its `_id`
pub record IsAdded (chunks : Chunks) (bag : Bag) (command : Command) (shard : ℕ) (document : Document) : Type 0 where
  pub is : command ≡ Insert document
  pub owner : shard ≡ owner_of chunks document
  pub free : held bag shard (id_of document) ≡ None

-- an update, whose result comes to its owner: the shard that it left, or one that held no other of its `_id`
pub record IsReplaced (chunks : Chunks) (bag : Bag) (command : Command) (shard : ℕ) (document : Document)
    (target : ℕ) (result : Document) : Type 0 where
  pub filter : Document
  pub update : List Action
  pub is : command ≡ Update filter update
  pub hit : IsHit chunks bag filter shard document
  pub made : updated text_limit update document ≡ Ok result
  pub owner : target ≡ owner_of chunks result
  pub free : (target ≡ shard) ⊎ (held bag target (id_of result) ≡ None)

-- a delete of the filter's document
pub record IsRemoved (chunks : Chunks) (bag : Bag) (command : Command) (shard : ℕ) (document : Document) : Type 0 where
  pub filter : Document
  pub is : command ≡ Delete filter
  pub hit : IsHit chunks bag filter shard document

-- what each command that does something has found
pub record DoingsFind : Type 0 where
  pub added : (chunks : Chunks) (bag : Bag) (command : Command) (shard : ℕ) (document : Document)
      → doing chunks bag command ≡ adds shard document → IsAdded chunks bag command shard document
  pub replaced : (chunks : Chunks) (bag : Bag) (command : Command) (shard : ℕ) (document : Document) (target : ℕ)
      (result : Document)
      → doing chunks bag command ≡ replaces shard document target result
      → IsReplaced chunks bag command shard document target result
  pub removed : (chunks : Chunks) (bag : Bag) (command : Command) (shard : ℕ) (document : Document)
      → doing chunks bag command ≡ removes shard document → IsRemoved chunks bag command shard document
