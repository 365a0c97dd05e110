-- What a step on one shard leaves of it, and of the cluster.
use Rattle.std.specs.Prelude.{◌≡◌, ◌<◌, ℕ, Bool, true, false, length}
use Rattle.resh_value.specs.Lookup.{id_of}
use Rattle.resh_value.specs.Whole.{is_whole}
use Rattle.resh_value.specs.declared.value.Value.{Value}
use Rattle.resh_command.specs.declared.command.Command.{Command}
use Rattle.resh_stamp.specs.declared.stamp.Stamp.{Stamp}
use Rattle.resh_versions.specs.Chains.{Document}
use Rattle.resh_shard.specs.Decisions.{answered, done, doing_on}
use Rattle.resh_shard.specs.Shards.{Shard, taken_in, taken_out, taking_in, undone_in}
use Rattle.resh_shard.specs.Writes.{shard_id}
use Rattle.resh_shard.specs.declared.act.Act.TheVariants as act
use Rattle.resh_shard.specs.declared.act.TakeIn.TheVariants as taking
use Rattle.resh_cells.specs.Cells.{on_shard, shard_in, with_shard}
use Rattle.resh_cells.specs.declared.cluster.Cluster.{Cluster}
use Rattle.resh_asking.specs.declared.asked.Did.{Did}
use Rattle.resh_asking.specs.declared.asked.Did.TheVariants as did
use Rattle.resh_asking.specs.declared.asked.Move.{Move}
use Rattle.resh_asking.specs.declared.asked.Move.TheVariants as move

-- a shard has done a command, or has left it, or memory was wanted
abbrev pub HasDone : Stamp → Command → Shard → Shard → Did → Type 0
HasDone stamp command old new (did.Replies reply) =
    (answered (doing_on old command) ≡ act.Done reply) × (new ≡ done stamp (doing_on old command) old)
HasDone stamp command old new (did.Leaves to document) =
    (answered (doing_on old command) ≡ act.Leaves (shard_id to) document) × (new ≡ old)
    × (is_whole document ≡ true)
HasDone stamp command old new did.Wants = new ≡ old

-- one shard of a cluster has become another one
pub record Became (s : ℕ) (old new : Cluster) (P : Shard → Shard → Type 0) : Type 0 where
  pub shard : Shard
  pub there : s < length old.shards
  pub made : P (shard_in old s).shard shard
  pub only : new ≡ on_shard s (with_shard (λ before. shard)) old

-- a document was taken in, or its `_id` is held, or memory was wanted; what was taken in can be taken back
abbrev pub HasTakenIn : Stamp → Document → Shard → Shard → Move → Type 0
HasTakenIn stamp document old new move.Moved =
    (taking_in old document ≡ taking.Taken) × (new ≡ taken_in stamp document old)
    × (undone_in (id_of document) new ≡ old)
HasTakenIn stamp document old new move.Duplicate = (taking_in old document ≡ taking.Duplicate) × (new ≡ old)
HasTakenIn stamp document old new move.Wants = new ≡ old

-- the document of an `_id` was taken out, or memory was wanted
abbrev pub HasTakenOut : Stamp → Value → Shard → Shard → Bool → Type 0
HasTakenOut stamp id old new true = new ≡ taken_out stamp id old
HasTakenOut stamp id old new false = new ≡ old

-- what moved in was taken out where it was, or was taken back
abbrev pub HasGoneOn : Stamp → ℕ → ℕ → Value → Value → Cluster → Cluster → Move → Type 0
HasGoneOn stamp from to id new_id old new move.Moved = new ≡ on_shard from (with_shard (taken_out stamp id)) old
HasGoneOn stamp from to id new_id old new move.Duplicate = ⊥
HasGoneOn stamp from to id new_id old new move.Wants = new ≡ on_shard to (with_shard (undone_in new_id)) old

-- a document moved, or its `_id` is held where it comes, or memory was wanted
abbrev pub HasMoved : Stamp → ℕ → ℕ → Value → Document → Cluster → Cluster → Move → Type 0
HasMoved stamp from to id document old new move.Moved =
    (taking_in (shard_in old to).shard document ≡ taking.Taken)
    × (new ≡ on_shard from (with_shard (taken_out stamp id)) (on_shard to (with_shard (taken_in stamp document)) old))
HasMoved stamp from to id document old new move.Duplicate =
    (taking_in (shard_in old to).shard document ≡ taking.Duplicate) × (new ≡ old)
HasMoved stamp from to id document old new move.Wants = new ≡ old
