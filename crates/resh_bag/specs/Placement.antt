-- Where a chunk map places the documents of a bag, and what would clash there.
use Rattle.std.specs.Prelude.{◌≡◌, ◌≢◌, ℕ, ◌==◌, List, map, filter, Some}
use Rattle.std.specs.List.{flat_map, range_with_len}
use Rattle.std.specs.Ordering.{nat_cmp, ordering_then}
use Rattle.std.specs.declared.cmp.Ordering.{Ordering}
use Rattle.std.specs.declared.cmp.Ordering.TheVariants.{Greater}
use Rattle.resh_value.specs.Order.{compare_of}
use Rattle.resh_value.specs.declared.value.Value.{Value}
use Rattle.resh_chunks.specs.Chunks.{Chunks, owner_of}
use Rattle.resh_bag.specs.Bag.{Bag, Document, held, documents}

-- the documents that the map gives to a shard, by `_id`
abbrev pub part : Chunks → Bag → ℕ → List Document
part chunks bag shard = filter (λ d. owner_of chunks d == shard) (documents bag)

-- the part of each shard, from shard 0 on
abbrev pub parts : Chunks → Bag → List (List Document)
parts chunks bag = map (part chunks bag) (range_with_len 0 chunks.shards)

-- the documents of all parts, one part after another
abbrev pub all_of : List (List Document) → List Document
all_of ps = flat_map (λ p. p) ps

-- two documents of one `_id` and of different shards that the new map would bring to one shard
pub record IsClash (new_map : Chunks) (bag : Bag) (shard : ℕ) (id : Value) : Type 0 where
  pub here : ℕ
  pub there : ℕ
  pub apart : here ≢ there
  pub one : Document
  pub other : Document
  pub one_held : held bag here id ≡ Some one
  pub other_held : held bag there id ≡ Some other
  pub one_comes : owner_of new_map one ≡ shard
  pub other_comes : owner_of new_map other ≡ shard

abbrev pub HasNoClash : Chunks → Bag → Type 0
HasNoClash new_map bag = (shard : ℕ) (id : Value) → IsClash new_map bag shard id → ⊥

-- clashes are ordered by the shard, then by `_id`
abbrev pub clash_cmp : ℕ × Value → ℕ × Value → Ordering
clash_cmp a b = ordering_then (nat_cmp a.0 b.0) (compare_of a.1 b.1)

-- a clash, and no other comes before it
pub record IsFirstClash (new_map : Chunks) (bag : Bag) (shard : ℕ) (id : Value) : Type 0 where
  pub clash : IsClash new_map bag shard id
  pub first : (s : ℕ) (i : Value) → IsClash new_map bag s i → clash_cmp (shard, id) (s, i) ≢ Greater
