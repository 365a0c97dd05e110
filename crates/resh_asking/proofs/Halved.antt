-- A document moves in two halves, or is taken back.
use Rattle.std.proofs.Common.{◌≡◌, ℕ, Bool, true, false, sym, ap, subst, ◌∙◌}
use Rattle.resh_value.specs.Lookup.{id_of}
use Rattle.resh_value.specs.declared.value.Value.{Value}
use Rattle.resh_stamp.specs.declared.stamp.Stamp.{Stamp}
use Rattle.resh_versions.specs.Chains.{Document}
use Rattle.resh_shard.specs.Shards.{taken_in, taken_out, undone_in}
use Rattle.resh_cells.specs.Cells.{on_shard, shard_in, with_shard}
use Rattle.resh_cells.specs.declared.cluster.Cluster.{Cluster}
use Rattle.resh_asking.specs.Steps.{Became, HasGoneOn, HasMoved, HasTakenIn, HasTakenOut}
use Rattle.resh_asking.specs.declared.asked.Move.{Move}
use Rattle.resh_asking.specs.declared.asked.Move.TheVariants as move
use Rattle.resh_asking.proofs.AtShards.{set_by, set_same}
use Rattle.resh_asking.proofs.Becoming.{taken_back}

module _ (old mid : Cluster) (s : ℕ) (stamp : Stamp) (id : Value) (out : Bool) (became : Became s old mid (λ before after. HasTakenOut stamp id before after out)) where
  pub went_out : out ≡ true → mid ≡ on_shard s (with_shard (taken_out stamp id)) old
  went_out e = became.only ∙ set_by old s became.shard (taken_out stamp id) (subst (HasTakenOut stamp id (shard_in old s).shard became.shard) e became.made)

  pub stayed_in : out ≡ false → mid ≡ old
  stayed_in e = became.only ∙ set_same old s became.shard (subst (HasTakenOut stamp id (shard_in old s).shard became.shard) e became.made)

pub undone : (old new : Cluster) (s : ℕ) (id : Value) → Became s old new (λ before after. after ≡ undone_in id before) → new ≡ on_shard s (with_shard (undone_in id)) old
undone old new s id became = became.only ∙ set_by old s became.shard (undone_in id) became.made

module _ (old mid new : Cluster) (from to : ℕ) (stamp : Stamp) (id new_id : Value) (document : Document) where
  pub moved_on : Became to old mid (λ before after. HasTakenIn stamp document before after move.Moved) → new_id ≡ id_of document → (what : Move) → HasGoneOn stamp from to id new_id mid new what
      → HasMoved stamp from to id document old new what
  moved_on became named move.Moved gone =
      (became.made.0, gone ∙ ap (on_shard from (with_shard (taken_out stamp id))) (became.only ∙ set_by old to became.shard (taken_in stamp document) became.made.1))
  moved_on became named move.Duplicate gone = absurd gone
  moved_on became named move.Wants gone =
      gone ∙ ap (on_shard to (with_shard (undone_in new_id))) (became.only ∙ set_by old to became.shard (taken_in stamp document) became.made.1)
      ∙ taken_back old to (taken_in stamp document) (undone_in new_id) became.there
      ((λ i. undone_in (named i) (sym became.made.1 i)) ∙ became.made.2)

  pub not_moved : Became to old mid (λ before after. HasTakenIn stamp document before after move.Duplicate) → HasMoved stamp from to id document old mid move.Duplicate
  not_moved became = (became.made.0, became.only ∙ set_same old to became.shard became.made.1)

  pub not_taken : Became to old mid (λ before after. HasTakenIn stamp document before after move.Wants) → mid ≡ old
  not_taken became = became.only ∙ set_same old to became.shard became.made
