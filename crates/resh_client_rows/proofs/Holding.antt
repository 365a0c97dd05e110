-- Shards that aren't blocked hold their places of the collection.
use Rattle.std.proofs.Common.{◌≡◌, ◌<◌, ℕ, Bool, true, false, cond, List, length, None, refl, sym, ap, ◌∙◌}
use Rattle.resh_cells.specs.Cells.{lanes_of, shard_in}
use Rattle.resh_cells.specs.declared.cluster.Cluster.{Cluster}
use Rattle.resh_bag.specs.Bag.{held}
use Rattle.resh_bag.specs.Parts.{bag_on, bag_over, is_among, of_id}
use Rattle.resh_bag.proofs.bags.BagLaws.{same_by_place}
use Rattle.resh_bag.proofs.shards.ByShard.{held_on, held_over}
use Rattle.resh_events.specs.Targets.{documents_at}
use Rattle.resh_model.specs.Orders.{State}
use Rattle.resh_place.specs.Lanes.{held_in}
use Rattle.resh_setup.specs.declared.setup.Setup.{Setup}
use Rattle.resh_shard.proofs.Held.{of_id_now}
use Rattle.resh_value.specs.declared.value.Value.{Value}
use Rattle.resh_versions.specs.Standing.{IsFiled, now}
use Rattle.resh_invariant.specs.Keeping.{Keeps}
use Rattle.resh_invariant.specs.Sources.{Clones}
use Rattle.resh_client_rows.proofs.Serving.{stays}

module _ (setup : Setup) (state : State) (clones : Clones) (cluster : Cluster) (keeps : Keeps setup state clones cluster) where
  pub filed : (s : ℕ) → s < length setup.shards → IsFiled (shard_in cluster s).shard.versions.chains
  filed s s_in = (keeps.donors s s_in).story.dated.filed

  pub holds_now : (s : ℕ) → s < length setup.shards → (shard_in cluster s).shard.blocked ≡ false → (id : Value)
      → now (shard_in cluster s).shard.versions id ≡ held state.bag s id
  holds_now s s_in free id =
      sym (ap (λ t. cond t (held_in setup.lanes (lanes_of cluster s) id).output (now (shard_in cluster s).shard.versions id)) (stays setup state clones cluster keeps s s_in free))
      ∙ keeps.contents s s_in id

  -- what some such shards hold is what they hold of the collection
  pub same_bag : (ss : List ℕ) → ((s : ℕ) → is_among ss s ≡ true → (s < length setup.shards) × ((shard_in cluster s).shard.blocked ≡ false))
      → bag_over (documents_at cluster) ss ≡ bag_on state.map state.bag ss
  same_bag ss free =
      same_by_place (bag_over (documents_at cluster) ss) (bag_on state.map state.bag ss)
      (λ t q. held_over (documents_at cluster) ss t q ∙ by t q (is_among ss t) refl ∙ sym (held_on state.map state.bag keeps.decided.placed ss t q))
    where
      by : (t : ℕ) (q : Value) (b : Bool) → is_among ss t ≡ b → cond (is_among ss t) (of_id q (documents_at cluster t)) None ≡ cond (is_among ss t) (held state.bag t q) None
      by t q true e =
          ap (λ o. cond (is_among ss t) o None)
          (of_id_now (shard_in cluster t).shard.versions (filed t (free t e).0) q ∙ holds_now t (free t e).0 (free t e).1 q)
      by t q false e = ap (λ b. cond b (of_id q (documents_at cluster t)) None) e ∙ sym (ap (λ b. cond b (held state.bag t q) None) e)
