-- A bag as its shards have it, each its own documents, and which shards a command is for.
use Rattle.std.specs.Prelude.{ℕ, zero, suc, ◌+◌, ◌==◌, Bool, cond, List, [], ◌∷◌, ◌++◌, find, Option, is_some}
use Rattle.std.specs.FinMap.{empty}
use Rattle.std.specs.List.{list_all, list_any, range_with_len}
use Rattle.std.specs.Ordering.{is_eq}
use Rattle.resh_value.specs.Lookup.{field_of, id_of}
use Rattle.resh_value.specs.Order.{compare_of}
use Rattle.resh_value.specs.declared.value.Value.{Value}
use Rattle.resh_chunks.specs.Chunks.{Chunks, owner_of}
use Rattle.resh_command.specs.declared.command.Command.{Command}
use Rattle.resh_command.specs.declared.command.Command.TheVariants.{Insert, Update, Delete, Find, Count, Abort}
use Rattle.resh_bag.specs.Answer.{Doing, adds, replaces, removes, says, doing, has_key}
use Rattle.resh_bag.specs.Bag.{Bag, Document, put}
use Rattle.resh_bag.specs.Placement.{part}

abbrev pub is_among : List ℕ → ℕ → Bool
is_among shards shard = list_any (λ s. s == shard) shards

-- the document of an `_id` in a list
abbrev pub of_id : Value → List Document → Option Document
of_id id documents = find (λ d. is_eq (compare_of id (id_of d))) documents

abbrev pub put_all : ℕ → List Document → Bag → Bag
put_all shard [] bag = bag
put_all shard (d ∷ ds) bag = put (put_all shard ds bag) shard d

-- the bag of some shards, each of which has its own documents
abbrev pub bag_over : (ℕ → List Document) → List ℕ → Bag
bag_over own [] = empty
bag_over own (s ∷ ss) = put_all s (own s) (bag_over own ss)

-- what some shards hold of a bag
abbrev pub bag_on : Chunks → Bag → List ℕ → Bag
bag_on chunks bag shards = bag_over (part chunks bag) shards

abbrev pub all_shards : Chunks → List ℕ
all_shards chunks = range_with_len 0 chunks.shards

-- the filter has each field of the map's pattern
abbrev pub has_pattern : Chunks → Document → Bool
has_pattern chunks filter = list_all (λ name. is_some (field_of filter name)) chunks.pattern

-- the shards that a command is for: the owner of its key, or else shard 0 for a write and all shards for a reading
abbrev pub targets : Chunks → Command → List ℕ
targets chunks (Insert d) = owner_of chunks d ∷ []
targets chunks (Update f u) = cond (has_key chunks f) (owner_of chunks f ∷ []) (0 ∷ [])
targets chunks (Delete f) = cond (has_key chunks f) (owner_of chunks f ∷ []) (0 ∷ [])
targets chunks (Find f) = cond (has_pattern chunks f) (owner_of chunks f ∷ []) (all_shards chunks)
targets chunks (Count f) = cond (has_pattern chunks f) (owner_of chunks f ∷ []) (all_shards chunks)
targets chunks Abort = []

-- the shards on which something is done
abbrev pub places_of : Doing → List ℕ
places_of (adds s d) = s ∷ []
places_of (replaces s d t e) = s ∷ t ∷ []
places_of (removes s d) = s ∷ []
places_of (says reply) = []

-- the targets, and the owner of an update's result
abbrev pub all_targets : Chunks → Bag → Command → List ℕ
all_targets chunks bag command =
    targets chunks command ++ places_of (doing chunks (bag_on chunks bag (targets chunks command)) command)

-- a sum over the first numbers
abbrev pub total : (ℕ → ℕ) → ℕ → ℕ
total g zero = 0
total g (suc n) = total g n + g n
