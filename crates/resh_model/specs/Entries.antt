-- Entries by `_id` and shard, as a collection keeps them, and what stands at a place among them.
use Rattle.std.specs.Prelude.{◌≡◌, ℕ, ◌<◌, ◌≤◌, T, List, length, map, slice_get, slice_set, insert, remove, Some, None}
use Rattle.std.specs.FinMap.{from_sorted, is_sorted}
use Rattle.resh_value.specs.declared.value.Value.{Value}
use Rattle.resh_value.specs.Lookup.{id_of}
use Rattle.resh_bag.specs.Bag.{Bag, Document, place_cmp, held, put, without}
use Rattle.resh_model.specs.declared.collection.Entry.{Entry}

abbrev pub keyed : Entry → (Value × ℕ) × Document
keyed entry = ((id_of entry.document, entry.shard.0), entry.document)

-- the places of the entries strictly rise
abbrev pub IsInOrder : List Entry → Type 0
IsInOrder entries = T (is_sorted place_cmp (map keyed entries))

-- the bag that entries in order are
unfoldable pub gathered : List Entry → Bag
gathered entries = from_sorted (map keyed entries)

-- the entry of a shard and an `_id` stands at a place: it is found, replaced and removed there
pub record StandsAt (entries : List Entry) (shard : ℕ) (id : Value) (place : ℕ) : Type 0 where
  pub within : place < length entries
  pub found : (entry : Entry) → slice_get entries place ≡ Some entry
      → held (gathered entries) shard id ≡ Some entry.document
  pub named : (entry : Entry) → slice_get entries place ≡ Some entry → id_of entry.document ≡ id
  pub replaced : (entry : Entry) → entry.shard.0 ≡ shard → id_of entry.document ≡ id
      → gathered (slice_set entries place entry) ≡ put (gathered entries) shard entry.document
  pub rises : (entry : Entry) → entry.shard.0 ≡ shard → id_of entry.document ≡ id
      → IsInOrder (slice_set entries place entry)
  pub removed : gathered (remove entries place) ≡ without (gathered entries) shard id
  pub rest_rises : IsInOrder (remove entries place)

-- no entry is of the shard and the `_id`, and a new one goes to a place
pub record GoesTo (entries : List Entry) (shard : ℕ) (id : Value) (place : ℕ) : Type 0 where
  pub within : place ≤ length entries
  pub missing : held (gathered entries) shard id ≡ None
  pub inserted : (entry : Entry) → entry.shard.0 ≡ shard → id_of entry.document ≡ id
      → gathered (insert entries place entry) ≡ put (gathered entries) shard entry.document
  pub rises : (entry : Entry) → entry.shard.0 ≡ shard → id_of entry.document ≡ id
      → IsInOrder (insert entries place entry)
  pub kept : gathered entries ≡ without (gathered entries) shard id
