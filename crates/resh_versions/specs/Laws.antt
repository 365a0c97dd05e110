-- What writes and prunings keep.
use Rattle.std.specs.Prelude.{◌≡◌, ◌≢◌, ◌≤◌, ◌<◌, ◌++◌, ◌∷◌, ℕ, Bool, List, Option, Some, None, IfSome, true, filter, map}
use Rattle.std.specs.FinMap.{empty}
use Rattle.std.specs.List.{AllByRecursion, Contains}
use Rattle.std.specs.List.Sorted.{IsStrictlySortedBy}
use Rattle.resh_value.specs.Lookup.{id_of}
use Rattle.resh_value.specs.Order.{compare_of}
use Rattle.resh_value.specs.declared.value.Value.{Value}
use Rattle.resh_versions.specs.Chains.{Document, IsStored}
use Rattle.resh_versions.specs.Standing.{VersionsOf, IsFiled, IsUpTo, StandsUnder, chain_of, at, now, is_above, last_of, standing, standing_after, standing_now, standing_up_to, stored_from, with_removal, with_version, without_last, pruned}
use Rattle.resh_versions.specs.declared.version.Version.{Version}

-- nothing stands where there are no chains
pub record StartsEmpty : Type 0 where
  pub now : (floor : ℕ) (id : Value) → now (record { chains = empty; floor = floor }) id ≡ None
  pub at : (floor time : ℕ) (id : Value) → at (record { chains = empty; floor = floor }) time id ≡ None
  pub up_to : (floor time : ℕ) → IsUpTo time (record { chains = empty; floor = floor })

-- a version is what its `_id` has from its time on, and changes no reading before it and none of another `_id`
pub record AddsVersion : Type 0 where
  pub now_there : (s : VersionsOf) (id : Value) (v : Version) → now (with_version s id v) id ≡ v.document
  pub now_elsewhere : (s : VersionsOf) (id other : Value) (v : Version) → other ≢ id
      → now (with_version s id v) other ≡ now s other
  pub from_then : (s : VersionsOf) (id : Value) (v : Version) (time : ℕ) → v.time ≤ time
      → at (with_version s id v) time id ≡ v.document
  pub before : (s : VersionsOf) (id other : Value) (v : Version) (time : ℕ) → time < v.time
      → at (with_version s id v) time other ≡ at s time other
  pub elsewhere : (s : VersionsOf) (id other : Value) (v : Version) (time : ℕ) → other ≢ id
      → at (with_version s id v) time other ≡ at s time other
  pub up_to : (s : VersionsOf) (id : Value) (v : Version) (time : ℕ) → IsUpTo time s → v.time ≤ time
      → IsUpTo time (with_version s id v)

-- a removal leaves nothing under its `_id`, and changes no reading before it and none of another `_id`
pub record RemovesOne : Type 0 where
  pub now_there : (s : VersionsOf) (removed : ℕ) (id : Value) → now (with_removal s removed id) id ≡ None
  pub now_elsewhere : (s : VersionsOf) (removed : ℕ) (id other : Value) → other ≢ id
      → now (with_removal s removed id) other ≡ now s other
  pub before : (s : VersionsOf) (removed time : ℕ) (id other : Value) → time < removed
      → at (with_removal s removed id) time other ≡ at s time other
  pub up_to : (s : VersionsOf) (removed time : ℕ) (id : Value) → IsUpTo time s → removed ≤ time
      → IsUpTo time (with_removal s removed id)
  pub filed : (s : VersionsOf) (removed : ℕ) (id : Value) → IsFiled s.chains
      → IsFiled (with_removal s removed id).chains

-- a version that is taken back leaves all as it was before it
abbrev pub TakesBack : Type 0
TakesBack = (s : VersionsOf) (id : Value) (v : Version) → IsFiled s.chains → without_last (with_version s id v) id ≡ s

-- where no version of an `_id` is later, the reading at a time is what stands now
abbrev pub ReadsNow : Type 0
ReadsNow = (s : VersionsOf) (time : ℕ) (id : Value) → AllByRecursion (λ v. v.time ≤ time) (chain_of s id)
    → at s time id ≡ now s id

-- chains stay their `_id`s' where a version is added that is, and where all are pruned
pub record KeepsFiled : Type 0 where
  pub empty : IsFiled empty
  pub added : (s : VersionsOf) (id : Value) (v : Version) → IsFiled s.chains
      → IfSome v.document (StandsUnder id) → IsFiled (with_version s id v).chains
  pub pruned : (s : VersionsOf) (time : ℕ) → IsFiled s.chains → IsFiled (pruned time s).chains

-- pruning changes no reading from the new floor on, nothing that stands now, and puts no version later
pub record PrunesUnseen : Type 0 where
  pub readings : (s : VersionsOf) (time t : ℕ) (id : Value) → (pruned time s).floor ≤ t
      → at (pruned time s) t id ≡ at s t id
  pub now : (s : VersionsOf) (time : ℕ) (id : Value) → now (pruned time s) id ≡ now s id
  pub up_to : (s : VersionsOf) (time t : ℕ) → IsUpTo t s → IsUpTo t (pruned time s)

-- the documents at a time above an `_id` are those that are read under such an `_id`, each once, by rising `_id`
pub record StandsByReading : Type 0 where
  pub read : (s : VersionsOf) (time : ℕ) (after : Option Value) (d : Document) → IsFiled s.chains
      → Contains (standing_after s time after) d
      → (at s time (id_of d) ≡ Some d) × (is_above after (id_of d) ≡ true)
  pub listed : (s : VersionsOf) (time : ℕ) (after : Option Value) (id : Value) (d : Document)
      → at s time id ≡ Some d → is_above after id ≡ true
      → Contains (standing_after s time after) d
  pub rise : (s : VersionsOf) (time : ℕ) (after : Option Value) → IsFiled s.chains
      → IsStrictlySortedBy compare_of (map id_of (standing_after s time after))
  pub whole : (s : VersionsOf) (time : ℕ) (after : Option Value) → IsFiled s.chains
      → AllByRecursion IsStored (standing_after s time after)

-- the same of the documents now
pub record StandsNow : Type 0 where
  pub read : (s : VersionsOf) (after : Option Value) (d : Document) → IsFiled s.chains
      → Contains (standing_now s after) d
      → (now s (id_of d) ≡ Some d) × (is_above after (id_of d) ≡ true)
  pub listed : (s : VersionsOf) (after : Option Value) (id : Value) (d : Document) → now s id ≡ Some d
      → is_above after id ≡ true
      → Contains (standing_now s after) d
  pub rise : (s : VersionsOf) (after : Option Value) → IsFiled s.chains
      → IsStrictlySortedBy compare_of (map id_of (standing_now s after))
  pub whole : (s : VersionsOf) (after : Option Value) → IsFiled s.chains
      → AllByRecursion IsStored (standing_now s after)

-- states that are read alike have the same lists; so a later version and a pruning leave the list at a time
pub record KeepsLists : Type 0 where
  pub alike : (s r : VersionsOf) (time : ℕ) (after : Option Value) → IsFiled s.chains → IsFiled r.chains
      → ((id : Value) → at s time id ≡ at r time id)
      → standing_after s time after ≡ standing_after r time after
  pub alike_now : (s r : VersionsOf) (after : Option Value) → IsFiled s.chains → IsFiled r.chains
      → ((id : Value) → now s id ≡ now r id)
      → standing_now s after ≡ standing_now r after
  pub later : (s : VersionsOf) (id : Value) (v : Version) (time : ℕ) (after : Option Value) → IsFiled s.chains
      → IfSome v.document (StandsUnder id) → time < v.time
      → standing_after (with_version s id v) time after ≡ standing_after s time after
  pub after_pruning : (s : VersionsOf) (floor time : ℕ) (after : Option Value) → IsFiled s.chains
      → (pruned floor s).floor ≤ time
      → standing_after (pruned floor s) time after ≡ standing_after s time after
  pub after_pruning_now : (s : VersionsOf) (floor : ℕ) (after : Option Value) → IsFiled s.chains
      → standing_now (pruned floor s) after ≡ standing_now s after
  pub reads_now : (s : VersionsOf) (time : ℕ) (after : Option Value) → IsFiled s.chains → IsUpTo time s
      → standing_after s time after ≡ standing_now s after

-- the list above an `_id` continues the list up to it, and what comes behind a document in a list is the list above its
-- `_id`, also where only some documents are taken
pub record ListsGoOn : Type 0 where
  pub joined : (s : VersionsOf) (time : ℕ) (last : Value)
      → standing s time ≡ standing_up_to s time last ++ standing_after s time (Some last)
  pub behind : (s : VersionsOf) (time : ℕ) (after : Option Value) (takes : Document → Bool)
      (front rest : List Document) (d : Document)
      → IsFiled s.chains
      → filter takes (standing_after s time after) ≡ front ++ d ∷ rest
      → filter takes (standing_after s time (Some (id_of d))) ≡ rest
  pub behind_now : (s : VersionsOf) (after : Option Value) (takes : Document → Bool)
      (front rest : List Document) (d : Document)
      → IsFiled s.chains
      → filter takes (standing_now s after) ≡ front ++ d ∷ rest → filter takes (standing_now s (Some (id_of d))) ≡ rest

-- documents that are stored alone, each from a time on: of several of one `_id` the last one stands
pub record StoresLast : Type 0 where
  pub now : (time : ℕ) (documents : List Document) (id : Value)
      → now (stored_from time documents) id ≡ last_of documents id
  pub at : (time later : ℕ) (documents : List Document) (id : Value) → time ≤ later
      → at (stored_from time documents) later id ≡ last_of documents id
  pub up_to : (time : ℕ) (documents : List Document) → IsUpTo time (stored_from time documents)
  pub filed : (time : ℕ) (documents : List Document) → AllByRecursion IsStored documents
      → IsFiled (stored_from time documents).chains
