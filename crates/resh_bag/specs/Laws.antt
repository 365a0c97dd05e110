-- What bags and their parts keep.
use Rattle.std.specs.Prelude.{◌≡◌, ◌≢◌, ◌⊎◌, ℕ, List, map, Some, None}
use Rattle.std.specs.List.{Contains}
use Rattle.std.specs.List.Sorted.{IsPermutation, IsStrictlySortedBy}
use Rattle.resh_value.specs.Order.{compare_of}
use Rattle.resh_value.specs.declared.value.Value.{Value}
use Rattle.resh_chunks.specs.Chunks.{Chunks, chunk_fault, owner_of}
use Rattle.resh_value.specs.Lookup.{id_of}
use Rattle.resh_bag.specs.Bag.{Bag, Document, held, put, without, documents, opening_bag, HasDistinctPlaces, IsPlaced}
use Rattle.resh_bag.specs.Placement.{part, parts, all_of, HasNoClash}

-- a document that is put stands at its place, and every other place has what it had
pub record PutsOne : Type 0 where
  pub there : (bag : Bag) (shard : ℕ) (document : Document)
      → held (put bag shard document) shard (id_of document) ≡ Some document
  pub elsewhere : (bag : Bag) (shard other : ℕ) (document : Document) (id : Value)
      → (other ≢ shard) ⊎ (id ≢ id_of document) → held (put bag shard document) other id ≡ held bag other id

-- nothing stands at a place that is emptied, and every other place has what it had
pub record RemovesOne : Type 0 where
  pub there : (bag : Bag) (shard : ℕ) (id : Value) → held (without bag shard id) shard id ≡ None
  pub elsewhere : (bag : Bag) (shard other : ℕ) (id other_id : Value) → (other ≢ shard) ⊎ (other_id ≢ id)
      → held (without bag shard id) other other_id ≡ held bag other other_id

-- bags that hold the same at each place are the same
abbrev pub SameByPlace : Type 0
SameByPlace = (a b : Bag) → ((shard : ℕ) (id : Value) → held a shard id ≡ held b shard id) → a ≡ b

-- a bag opens with documents of its list, each at the place that the map gives it
pub record OpensPlaced : Type 0 where
  pub placed : (old_map : Chunks) (ds : List Document) → IsPlaced old_map (opening_bag old_map ds)
  pub only : (old_map : Chunks) (ds : List Document) (shard : ℕ) (id : Value) (document : Document)
      → held (opening_bag old_map ds) shard id ≡ Some document → Contains ds document

-- where no two have one place, it holds each of them, and none twice
pub record OpensWhole : Type 0 where
  pub each : (old_map : Chunks) (ds : List Document) → HasDistinctPlaces old_map ds → (document : Document)
      → Contains ds document
      → held (opening_bag old_map ds) (owner_of old_map document) (id_of document) ≡ Some document
  pub all : (old_map : Chunks) (ds : List Document) → HasDistinctPlaces old_map ds
      → IsPermutation ds (documents (opening_bag old_map ds))

-- the parts of a bag, one after another, are its documents in another order, so that each stands in exactly one part
abbrev pub KeepsAll : Type 0
KeepsAll = (chunks : Chunks) (bag : Bag) → chunk_fault chunks ≡ None
    → IsPermutation (documents bag) (all_of (parts chunks bag))

-- by the map that placed it, a bag has no clash
abbrev pub NoClashInPlace : Type 0
NoClashInPlace = (chunks : Chunks) (bag : Bag) → IsPlaced chunks bag → HasNoClash chunks bag

-- where no clash stands, the `_id`s of each part rise, so that none stands twice on a shard
abbrev pub PartsRise : Type 0
PartsRise = (old_map new_map : Chunks) (bag : Bag) → IsPlaced old_map bag → HasNoClash new_map bag → (shard : ℕ)
    → IsStrictlySortedBy compare_of (map id_of (part new_map bag shard))
