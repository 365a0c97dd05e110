-- A shard's write of a document that it holds, and what it may do of one event.
use Rattle.std.specs.Prelude.{◌≡◌, ◌≢◌, ◌≤◌, ◌⊎◌, ⊤, ℕ, true, List, Some, None}
use Rattle.resh_value.specs.Change.{changed}
use Rattle.resh_value.specs.Lookup.{id_of}
use Rattle.resh_value.specs.Whole.{has_rising_names, is_whole}
use Rattle.resh_chunks.specs.Chunks.{owner_of}
use Rattle.resh_stamp.specs.declared.stamp.Stamp.{Stamp}
use Rattle.resh_versions.specs.Chains.{Document}
use Rattle.resh_versions.specs.Standing.{now}
use Rattle.resh_bag.specs.Answer.{Doing, adds, replaces, removes, says}
use Rattle.resh_bag.specs.Parts.{is_among}
use Rattle.resh_shard.specs.Shards.{Shard, wrote}
use Rattle.resh_shard.specs.declared.act.Write.{Write}
use Rattle.resh_shard.specs.declared.act.Write.TheVariants.{Puts, Takes, Turns, Rekeys}

-- a whole document may come where its `_id` isn't held
abbrev pub MayCome : Shard → Document → Type 0
MayCome shard d = (is_whole d ≡ true) × (now shard.versions (id_of d) ≡ None)

-- a document is held
abbrev pub IsHeld : Shard → Document → Type 0
IsHeld shard d = now shard.versions (id_of d) ≡ Some d

-- a whole document may replace one of its `_id` that is held
abbrev pub MayReplace : Shard → Document → Document → Type 0
MayReplace shard d e = IsHeld shard d × (is_whole e ≡ true) × (id_of e ≡ id_of d)

-- a write of what a shard holds; a change, whose names rise, leads to the result and leaves the new owner
abbrev pub IsWriteAt : Shard → Write → Type 0
IsWriteAt shard (Puts d) = MayCome shard d
IsWriteAt shard (Takes d) = IsHeld shard d
IsWriteAt shard (Turns d change e) =
    MayReplace shard d e × (e ≡ changed change.assign change.unset d)
    × (owner_of shard.new_map e ≡ owner_of shard.new_map d) × (has_rising_names change.assign ≡ true)
IsWriteAt shard (Rekeys d e) = MayReplace shard d e

-- a doing of what a shard holds
abbrev pub IsDoingAt : Shard → Doing → Type 0
IsDoingAt shard (adds n d) = MayCome shard d
IsDoingAt shard (replaces n d t e) = MayReplace shard d e
IsDoingAt shard (removes n d) = IsHeld shard d
IsDoingAt shard (says reply) = ⊤

-- a doing on several shards, of which each has its own documents: what it takes is held there, and what it brings to
-- one of them may come
abbrev pub Acts : (ℕ → Shard) → List ℕ → Doing → Type 0
Acts own shards (adds s d) = is_among shards s ≡ true → MayCome (own s) d
Acts own shards (replaces s d t e) = MayReplace (own s) d e × (t ≢ s → is_among shards t ≡ true → MayCome (own t) e)
Acts own shards (removes s d) = IsHeld (own s) d
Acts own shards (says reply) = ⊤

-- a shard as it was, or after one write of what it holds, whose entries have the parts from 0 or from 1 on
abbrev pub MayWrite : Stamp → Shard → Shard → Type 0
MayWrite stamp before after = (after ≡ before)
    ⊎ ((part : ℕ) × (w : Write) × (part ≤ 1) × IsWriteAt before w × (after ≡ wrote stamp part w before))
