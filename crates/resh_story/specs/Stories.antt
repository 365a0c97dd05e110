-- A shard's versions and log against what it holds now.
use Rattle.std.specs.Prelude.{◌≡◌, ◌≤◌, ◌==◌, ℕ, true, nat_lt, List, Option, None, is_some}
use Rattle.std.specs.List.{AllByRecursion}
use Rattle.resh_value.specs.declared.value.Value.{Value}
use Rattle.resh_oplog.specs.Logs.{later_entries}
use Rattle.resh_oplog.specs.declared.entry.Entry.{Entry}
use Rattle.resh_oplog.specs.declared.entry.What.{What}
use Rattle.resh_feed.specs.Effects.{effects_on}
use Rattle.resh_feed.specs.Feeds.{feed, items_of, whats}
use Rattle.resh_feed.specs.Items.{up_to_final}
use Rattle.resh_versions.specs.Chains.{Document}
use Rattle.resh_versions.specs.Standing.{IsFiled, IsUpTo, now}
use Rattle.resh_shard.specs.Laws.{comes}
use Rattle.resh_shard.specs.Shards.{Shard}
use Rattle.resh_cloner.specs.Cloning.{clone_part}

-- the documents that a shard held at a time and that come to a recipient
abbrev pub clones_of : Shard → ℕ → ℕ → List Document
clones_of shard time recipient = clone_part shard.versions shard.new_map time recipient

-- its later entries for the recipient
abbrev pub entries_for : Shard → ℕ → ℕ → List Entry
entries_for shard time recipient = later_entries time recipient shard.log.entries

-- what they tell a recipient: those documents as inserts, then those entries
abbrev pub told_from : Shard → ℕ → ℕ → List What
told_from shard time recipient = whats (items_of (clones_of shard time recipient) (entries_for shard time recipient))

-- the shard's feed for a recipient: the same up to a final entry
abbrev pub feed_from : Shard → ℕ → ℕ → List What
feed_from shard time recipient = feed recipient time (clones_of shard time recipient) shard.log.entries

-- what it holds now under an `_id` and comes to a recipient
abbrev pub held_for : Shard → ℕ → Value → Option Document
held_for shard recipient id = comes (λ number. number == recipient) shard.new_map (now shard.versions id)

-- each entry of a later time names a recipient
abbrev pub IsNamedAfter : ℕ → List Entry → Type 0
IsNamedAfter time log = AllByRecursion (λ entry. nat_lt time entry.stamp.time ≡ true → is_some entry.to ≡ true) log

-- nothing later is logged for a recipient behind a final entry
abbrev pub IsWholeFeed : Shard → ℕ → ℕ → Type 0
IsWholeFeed shard time recipient = up_to_final (entries_for shard time recipient) ≡ entries_for shard time recipient

-- what is told from a time on that can be read and after which every entry names a recipient leaves, in each slot, what
-- the shard holds now and comes to the recipient
abbrev pub IsStory : Shard → Type 0
IsStory shard = (time : ℕ) → shard.versions.floor ≤ time → IsNamedAfter time shard.log.entries
    → (recipient : ℕ) (id : Value) → effects_on id (told_from shard time recipient) None ≡ held_for shard recipient id

-- each document of a shard stands under its own `_id`, and no version or entry of it is later than a clock, nor is the
-- time from which on readings are answered
pub record IsDated (clock : ℕ) (shard : Shard) : Type 0 where
  pub filed : IsFiled shard.versions.chains
  pub up_to : IsUpTo clock shard.versions
  pub floor : shard.versions.floor ≤ clock
  pub logged : AllByRecursion (λ entry. entry.stamp.time ≤ clock) shard.log.entries

-- a shard that is dated and has its story
pub record HasStory (clock : ℕ) (shard : Shard) : Type 0 where
  pub dated : IsDated clock shard
  pub story : IsStory shard
