-- What a bag's shards tell of it.
use Rattle.std.specs.Prelude.{◌≡◌, ◌≢◌, ◌<◌, ◌↔◌, ℕ, Bool, true, cond, List, length, map, filter, take, None}
use Rattle.std.specs.List.{Contains}
use Rattle.std.specs.List.Sorted.{IsStrictlySortedBy}
use Rattle.std.specs.declared.cmp.Ordering.TheVariants.{Greater}
use Rattle.resh_value.specs.Lookup.{id_of}
use Rattle.resh_value.specs.Order.{compare_of}
use Rattle.resh_value.specs.declared.value.Value.{Value}
use Rattle.resh_chunks.specs.Chunks.{Chunks, chunk_fault, owner_of}
use Rattle.resh_command.specs.declared.command.Command.{Command}
use Rattle.resh_bag.specs.Answer.{doing}
use Rattle.resh_bag.specs.Bag.{Bag, Document, documents, held, place_cmp, place_of, put, without, IsPlaced}
use Rattle.resh_bag.specs.Parts.{all_shards, all_targets, bag_on, is_among, of_id, total}
use Rattle.resh_bag.specs.Placement.{part, HasNoClash, IsClash, IsFirstClash}

-- a bag is read by shard: what a shard holds is in its part, what some shards hold is nothing beside, and all of them
-- together hold the bag
pub record ReadsByShard : Type 0 where
  pub one : (chunks : Chunks) (bag : Bag) → IsPlaced chunks bag
      → (shard : ℕ) (id : Value) → held bag shard id ≡ of_id id (part chunks bag shard)
  pub some : (chunks : Chunks) (bag : Bag) → IsPlaced chunks bag → (shards : List ℕ) (shard : ℕ) (id : Value)
      → held (bag_on chunks bag shards) shard id ≡ cond (is_among shards shard) (held bag shard id) None
  pub all : (chunks : Chunks) (bag : Bag) → IsPlaced chunks bag → chunk_fault chunks ≡ None
      → bag_on chunks bag (all_shards chunks) ≡ bag

-- what is put on a shard or taken from it leaves the others' parts
pub record LeavesOtherParts : Type 0 where
  pub put : (chunks : Chunks) (bag : Bag) → IsPlaced chunks bag → (document : Document) (other : ℕ)
      → other ≢ owner_of chunks document
      → part chunks (put bag (owner_of chunks document) document) other ≡ part chunks bag other
  pub removed : (chunks : Chunks) (bag : Bag) → IsPlaced chunks bag → (shard other : ℕ) (id : Value)
      → other ≢ shard → part chunks (without bag shard id) other ≡ part chunks bag other

-- a command does what it does by what its targets hold
abbrev pub AnsweredByTargets : Type 0
AnsweredByTargets = (chunks : Chunks) (bag : Bag) (command : Command) → IsPlaced chunks bag → chunk_fault chunks ≡ None
    → (shards : List ℕ) → ((s : ℕ) → is_among (all_targets chunks bag command) s ≡ true → is_among shards s ≡ true)
    → doing chunks (bag_on chunks bag shards) command ≡ doing chunks bag command

-- the two halves of a move, in either order, are the move
abbrev pub MovesByHalves : Type 0
MovesByHalves = (bag : Bag) (shard target : ℕ) (id : Value) (document : Document) → target ≢ shard
    → without (put bag target document) shard id ≡ put (without bag shard id) target document

-- a list by place of no document but the shards' own matches, which has the first of each shard's
pub record IsMerged (chunks : Chunks) (bag : Bag) (p : Document → Bool) (most : ℕ) (ds : List Document) : Type 0 where
  pub rises : IsStrictlySortedBy (λ a b. place_cmp (place_of chunks a) (place_of chunks b)) ds
  pub only : (d : Document) → Contains ds d → (s : ℕ) × Contains (filter p (part chunks bag s)) d
  pub firsts : (s : ℕ) (d : Document) → Contains (take most (filter p (part chunks bag s))) d → Contains ds d

-- what the shards' parts answer a find and a count merges to what the bag answers
pub record PartsMerge : Type 0 where
  pub finds : (chunks : Chunks) (bag : Bag) (p : Document → Bool) (most : ℕ) (ds : List Document) → IsPlaced chunks bag
      → IsMerged chunks bag p most ds → take most ds ≡ take most (filter p (documents bag))
  pub counts : (chunks : Chunks) (bag : Bag) (p : Document → Bool) → chunk_fault chunks ≡ None
      → length (filter p (documents bag)) ≡ total (λ s. length (filter p (part chunks bag s))) chunks.shards

-- two documents of one `_id` and of different old shards in the part of a recipient
pub record IsDoubled (old_map new_map : Chunks) (bag : Bag) (shard : ℕ) (id : Value) : Type 0 where
  pub one : Document
  pub other : Document
  pub one_comes : Contains (part new_map bag shard) one
  pub other_comes : Contains (part new_map bag shard) other
  pub one_id : id_of one ≡ id
  pub other_id : id_of other ≡ id
  pub apart : owner_of old_map one ≢ owner_of old_map other

-- clashes are told by the recipients: each by its own part, and the first one is the least of the first shard that has
-- one
pub record ClashesByRecipient : Type 0 where
  pub clash : (old_map new_map : Chunks) (bag : Bag) → IsPlaced old_map bag
      → (shard : ℕ) (id : Value) → IsClash new_map bag shard id ↔ IsDoubled old_map new_map bag shard id
  pub free : (old_map new_map : Chunks) (bag : Bag) → IsPlaced old_map bag
      → ((shard : ℕ) → IsStrictlySortedBy compare_of (map id_of (part new_map bag shard))) → HasNoClash new_map bag
  pub first : (new_map : Chunks) (bag : Bag) (shard : ℕ) (id : Value) → IsClash new_map bag shard id
      → ((s : ℕ) (i : Value) → s < shard → IsClash new_map bag s i → ⊥)
      → ((i : Value) → IsClash new_map bag shard i → compare_of id i ≢ Greater) → IsFirstClash new_map bag shard id
