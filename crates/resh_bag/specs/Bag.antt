-- The collection: one bag of documents, each under its `_id` and the shard that owns it.
use Rattle.std.specs.Prelude.{◌≡◌, ℕ, List, [], ◌∷◌, map, Option, Some}
use Rattle.std.specs.FinMap.{FinMap, empty, get, insert, remove, values}
use Rattle.std.specs.List.{IsDistinct}
use Rattle.std.specs.Ordering.{nat_cmp, ordering_then, eq_by_cmp}
use Rattle.std.specs.declared.cmp.Ordering.{Ordering}
use Rattle.resh_value.specs.Order.{compare_of}
use Rattle.resh_value.specs.declared.value.Value.{Value}
use Rattle.resh_value.specs.Lookup.{id_of}
use Rattle.resh_chunks.specs.Chunks.{Chunks, owner_of}

abbrev pub Document : Type 0
Document = List (List ℕ × Value)

-- places are ordered by `_id`, then by shard
abbrev pub place_cmp : Value × ℕ → Value × ℕ → Ordering
place_cmp a b = ordering_then (compare_of a.0 b.0) (nat_cmp a.1 b.1)

abbrev pub Bag : Type 0
Bag = FinMap place_cmp Document

-- the document at a shard under an `_id`
unfoldable pub held : Bag → ℕ → Value → Option Document
held bag shard id = get bag (id, shard)

-- the bag with a document at a shard
unfoldable pub put : Bag → ℕ → Document → Bag
put bag shard document = insert bag (id_of document, shard) document

unfoldable pub without : Bag → ℕ → Value → Bag
without bag shard id = remove bag (id, shard)

-- the documents by `_id` and shard
unfoldable pub documents : Bag → List Document
documents bag = values bag

-- each document under the shard that the old map gives it
abbrev pub opening_bag : Chunks → List Document → Bag
opening_bag old_map [] = empty
opening_bag old_map (d ∷ ds) = put (opening_bag old_map ds) (owner_of old_map d) d

-- the place that a map gives a document
abbrev pub place_of : Chunks → Document → Value × ℕ
place_of chunks document = (id_of document, owner_of chunks document)

-- no two documents of a list have one place
abbrev pub HasDistinctPlaces : Chunks → List Document → Type 0
HasDistinctPlaces chunks ds = IsDistinct (eq_by_cmp place_cmp) (map (place_of chunks) ds)

-- what the bag holds stands at the place that the map gives it
pub record IsPlaced (chunks : Chunks) (bag : Bag) : Type 0 where
  pub by_id : (shard : ℕ) (id : Value) (document : Document) → held bag shard id ≡ Some document → id_of document ≡ id
  pub by_owner : (shard : ℕ) (id : Value) (document : Document) → held bag shard id ≡ Some document
      → owner_of chunks document ≡ shard
