-- A write whose documents are a shard's own.
use Rattle.std.specs.Prelude.{◌≡◌, ◌≢◌, ◌≤◌, ⊤, ℕ}
use Rattle.resh_value.specs.Lookup.{id_of}
use Rattle.resh_value.specs.declared.value.Value.{Value}
use Rattle.resh_bag.specs.Bag.{Bag, IsPlaced, held}
use Rattle.resh_bag.specs.WholeLaws.{HoldsWhole}
use Rattle.resh_chunks.specs.Chunks.{Chunks}
use Rattle.resh_model.specs.Orders.{State}
use Rattle.resh_oplog.specs.declared.entry.What.TheVariants.{Insert, Update}
use Rattle.resh_shard.specs.Shards.{Shard, wrote}
use Rattle.resh_shard.specs.declared.act.Which.TheVariants.{Old}
use Rattle.resh_shard.specs.declared.act.Write.{Write}
use Rattle.resh_shard.specs.declared.act.Write.TheVariants.{Puts, Takes, Turns, Rekeys}
use Rattle.resh_stamp.specs.declared.stamp.Stamp.{Stamp}
use Rattle.resh_story.specs.Writing.{IsWriteAt}
use Rattle.resh_versions.specs.Standing.{now}
use Rattle.resh_invariant.specs.Items.{IsItemOf}

-- what it stores and what it logs are items of the shard's own
abbrev pub AreOwn : Chunks → ℕ → Write → Type 0
AreOwn old s (Puts d) = IsItemOf old s (Insert d)
AreOwn old s (Takes d) = ⊤
AreOwn old s (Turns d change e) = IsItemOf old s (Insert e) × IsItemOf old s (Update (id_of d) change)
AreOwn old s (Rekeys d e) = IsItemOf old s (Insert e)

-- a write of what a shard holds; as long as it serves by the old map, of its own
pub record IsOwnWrite (old : Chunks) (s : ℕ) (stamp : Stamp) (before after : Shard) : Type 0 where
  pub part : ℕ
  pub write : Write
  pub part_is : part ≤ 1
  pub acts : IsWriteAt before write
  pub own : before.which ≡ Old → AreOwn old s write
  pub is : after ≡ wrote stamp part write before

-- the collection after it: the shard's place is what the shard holds, and the others' are as they were
pub record HoldsAfter (state : State) (s : ℕ) (after : Shard) (bag : Bag) : Type 0 where
  pub placed : IsPlaced state.map bag
  pub whole : HoldsWhole bag
  pub here : (id : Value) → now after.versions id ≡ held bag s id
  pub elsewhere : (d : ℕ) → d ≢ s → (id : Value) → held bag d id ≡ held state.bag d id
