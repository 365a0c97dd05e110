-- What holds of the part of a feed that is cloned.
use Rattle.std.specs.Prelude.{◌≡◌, ◌≤◌, ◌<◌, ◌++◌, ℕ, true, List, map, Option, Some, IfSome}
use Rattle.std.specs.List.{AllByRecursion, Contains}
use Rattle.std.specs.List.Sorted.{IsStrictlySortedBy}
use Rattle.resh_value.specs.Lookup.{id_of}
use Rattle.resh_value.specs.Order.{compare_of}
use Rattle.resh_value.specs.declared.value.Value.{Value}
use Rattle.resh_chunks.specs.Chunks.{Chunks, owner_of}
use Rattle.resh_versions.specs.Chains.{Document, IsStored}
use Rattle.resh_versions.specs.Standing.{VersionsOf, IsFiled, StandsUnder, at, is_above, pruned, with_version}
use Rattle.resh_versions.specs.declared.version.Version.{Version}
use Rattle.resh_oplog.specs.Logs.{later_entries}
use Rattle.resh_oplog.specs.declared.entry.Entry.{Entry}
use Rattle.resh_feed.specs.Feeds.{feed_items, next_documents}
use Rattle.resh_feed.specs.Items.{cloned_item, fetched_item, last_id_of, up_to_final}
use Rattle.resh_cloner.specs.Cloning.{clone_part, left_after}

-- what is left is what stood at the fetch time above an `_id` and comes to the recipient
pub record ClonesEach : Type 0 where
  pub stood : (versions : VersionsOf) (new_map : Chunks) (time recipient : ℕ) (after : Option Value) (d : Document)
      → IsFiled versions.chains → Contains (left_after versions new_map time recipient after) d
      → (at versions time (id_of d) ≡ Some d) × (is_above after (id_of d) ≡ true) × (owner_of new_map d ≡ recipient)
  pub left : (versions : VersionsOf) (new_map : Chunks) (time recipient : ℕ) (after : Option Value) (d : Document)
      → at versions time (id_of d) ≡ Some d → is_above after (id_of d) ≡ true → owner_of new_map d ≡ recipient
      → Contains (left_after versions new_map time recipient after) d

-- its documents are whole, and their `_id`s rise
pub record ClonesInOrder : Type 0 where
  pub rise : (versions : VersionsOf) (new_map : Chunks) (time recipient : ℕ) (after : Option Value)
      → IsFiled versions.chains
      → IsStrictlySortedBy compare_of (map id_of (left_after versions new_map time recipient after))
  pub whole : (versions : VersionsOf) (new_map : Chunks) (time recipient : ℕ) (after : Option Value)
      → IsFiled versions.chains → AllByRecursion IsStored (left_after versions new_map time recipient after)

-- what is left above the last document that was read is the rest of the part: the feed's next documents, whose items
-- stand in the feed behind those of what was read and before its entries
pub record GoesOn : Type 0 where
  pub rest : (versions : VersionsOf) (new_map : Chunks) (time recipient : ℕ) (read rest : List Document)
      → IsFiled versions.chains → clone_part versions new_map time recipient ≡ read ++ rest
      → left_after versions new_map time recipient (last_id_of read) ≡ rest
  pub next : (versions : VersionsOf) (new_map : Chunks) (time recipient : ℕ) (read rest : List Document)
      → IsFiled versions.chains → clone_part versions new_map time recipient ≡ read ++ rest
      → left_after versions new_map time recipient (last_id_of read)
      ≡ next_documents read (clone_part versions new_map time recipient)
  pub items : (versions : VersionsOf) (new_map : Chunks) (time recipient : ℕ) (log : List Entry)
      (read rest : List Document)
      → IsFiled versions.chains → clone_part versions new_map time recipient ≡ read ++ rest
      → feed_items recipient time (clone_part versions new_map time recipient) log
      ≡ map cloned_item read ++ map cloned_item (left_after versions new_map time recipient (last_id_of read))
      ++ map fetched_item (up_to_final (later_entries time recipient log))

-- later versions and prunings leave it
pub record StaysCloned : Type 0 where
  pub later : (versions : VersionsOf) (new_map : Chunks) (time recipient : ℕ) (after : Option Value) (id : Value)
      (v : Version)
      → IsFiled versions.chains → IfSome v.document (StandsUnder id) → time < v.time
      → left_after (with_version versions id v) new_map time recipient after
      ≡ left_after versions new_map time recipient after
  pub pruning : (versions : VersionsOf) (new_map : Chunks) (time recipient : ℕ) (after : Option Value) (floor : ℕ)
      → IsFiled versions.chains → (pruned floor versions).floor ≤ time
      → left_after (pruned floor versions) new_map time recipient after
      ≡ left_after versions new_map time recipient after
