-- One write of a shard, as a command makes it, keeps the invariant.
use Rattle.std.proofs.Common.{◌≡◌, ◌≢◌, ◌≤◌, ◌<◌, ◌^◌, ◌⊎◌, inl, inr, ⊎_elim, ℕ, Bool, true, false, cond, codes, length, List, Option, Some, Less, Equal, Greater, refl, sym, ap, subst, ◌∙◌, arith}
use Rattle.std.proofs.lemmas.Bool.Decides.{eqb_tells}
use Rattle.std.proofs.lemmas.List.{set-get_or}
use Rattle.std.specs.Ordering.{is_eq}
use Rattle.std.specs.declared.cmp.Ordering.{Ordering}
use Rattle.resh_value.specs.Lookup.{field_of, id_of}
use Rattle.resh_value.specs.Order.{compare_documents}
use Rattle.resh_value.specs.OrderLaws.{documents_same}
use Rattle.resh_value.specs.Whole.{IsWhole}
use Rattle.resh_value.specs.declared.value.Value.{Value}
use Rattle.resh_value.proofs.WholeLaws.{whole_decides}
use Rattle.resh_bag.specs.Bag.{Bag, Document, IsPlaced, held}
use Rattle.resh_bag.specs.WholeLaws.{HoldsWhole}
use Rattle.resh_bag.proofs.bags.BagLaws.{same_by_place}
use Rattle.resh_cells.specs.Cells.{no_shard, shard_in}
use Rattle.resh_cells.specs.Clocks.{clock_of}
use Rattle.resh_cells.specs.declared.cell.Cell.TheVariants as cell
use Rattle.resh_cells.specs.declared.cluster.Clocks.{Clocks}
use Rattle.resh_cells.specs.declared.cluster.Cluster.{Cluster}
use Rattle.resh_cells.specs.declared.cluster.ShardCell.{ShardCell}
use Rattle.resh_chunks.specs.Chunks.{owner_of}
use Rattle.resh_command.specs.declared.reply.Reply.TheVariants.{Matched}
use Rattle.resh_model.specs.Orders.{State}
use Rattle.resh_ops.proofs.Differences.{HasRisingNames-assigned}
use Rattle.resh_setup.specs.Validity.{IsValid}
use Rattle.resh_setup.specs.declared.setup.Setup.{Setup}
use Rattle.resh_shard.specs.Decisions.{decided_turn, done_by, names_key, turned}
use Rattle.resh_shard.specs.Differences.{change_between}
use Rattle.resh_shard.specs.Shards.{Shard, map_by, wrote}
use Rattle.resh_shard.specs.Writes.{written}
use Rattle.resh_shard.specs.declared.act.Decision.TheVariants.{Writes, Says}
use Rattle.resh_shard.specs.declared.act.Which.TheVariants.{Old}
use Rattle.resh_shard.specs.declared.act.Write.{Write}
use Rattle.resh_shard.specs.declared.act.Write.TheVariants.{Rekeys, Turns}
use Rattle.resh_shard.proofs.Effects.{after, same_or, written_here, written_there}
use Rattle.resh_stamp.specs.declared.stamp.Stamp.{Stamp}
use Rattle.resh_story.specs.Writing.{IsWriteAt, MayReplace}
use Rattle.resh_story.proofs.Writes.{id_in, write_of}
use Rattle.resh_versions.specs.Standing.{now}
use Rattle.resh_invariant.specs.Frames.{AreLater}
use Rattle.resh_invariant.specs.Keeping.{Keeps}
use Rattle.resh_invariant.specs.Sources.{Clones}
use Rattle.resh_invariant.proofs.Framing.{clocks_keep}
use Rattle.resh_write_rows.specs.Laws.{WriteKeeps, with_written}
use Rattle.resh_write_rows.specs.Owned.{AreOwn}
use Rattle.resh_client_rows.proofs.Holding.{holds_now}
use Rattle.resh_client_rows.proofs.Owned.{names_others, turns_at}
use Rattle.resh_client_rows.proofs.Serving.{map_is}

-- a shard of the setup that isn't blocked, whose clock is earlier than an event and is set to its time
pub record IsReady (setup : Setup) (cluster : Cluster) (stamp : Stamp) (clocks : Clocks) (s : ℕ) : Type 0 where
  pub inside : s < length setup.shards
  pub free : (shard_in cluster s).shard.blocked ≡ false
  pub before : clock_of cluster.clocks (cell.Shard s) < stamp.time
  pub set : clock_of clocks (cell.Shard s) ≡ stamp.time

module _ (writes : WriteKeeps) (setup : Setup) (valid : IsValid setup) (stamp : Stamp) (node : stamp.node < 2 ^ 32) (state : State) (clones : Clones) (cluster : Cluster)
    (keeps : Keeps setup state clones cluster) (clocks : Clocks) (rise : AreLater cluster.clocks clocks) (s : ℕ) (ready : IsReady setup cluster stamp clocks s) where
  abbrev old : Shard
  old = (shard_in cluster s).shard

  -- as long as it serves by the old map, that is in force
  pub old_in_force : (shard_in cluster s).shard.which ≡ Old → state.map ≡ setup.old_map
  old_in_force which = map_is setup state clones cluster keeps s ready.inside ready.free ∙ ap (λ w. map_by w setup.old_map setup.new_map) which

  -- the collection with what an `_id` has on the shard changed
  pub record Changes (bag : Bag) (id : Value) (found : Option Document) : Type 0 where
    pub placed : IsPlaced state.map bag
    pub whole : HoldsWhole bag
    pub here : held bag s id ≡ found
    pub beside : (q : Value) → q ≢ id → held bag s q ≡ held state.bag s q
    pub elsewhere : (k : ℕ) → k ≢ s → (q : Value) → held bag k q ≡ held state.bag k q

  pub one_write : (part : ℕ) (w : Write) (then : Shard) (bag : Bag) → part ≤ 1 → IsWriteAt (shard_in cluster s).shard w
      → ((shard_in cluster s).shard.which ≡ Old → AreOwn setup.old_map s w) → then ≡ wrote stamp part w (shard_in cluster s).shard → Changes bag (id_in w) (after w)
      → (later : Clones) × Keeps setup (record state { bag = bag }) later (with_written s then clocks cluster)
  one_write part w then bag le acts own is changes =
      writes setup state clones cluster s stamp clocks then bag valid keeps rise ready.inside ready.free ready.before ready.set node
      (record { part = part; write = w; part_is = le; acts = acts; own = own; is = is })
      (record {
        placed = changes.placed;
        whole = changes.whole;
        here = λ q. ap (λ (x : Shard). now x.versions q) is ∙ ⊎_elim (λ same. there q same) (λ ne. others q ne) (same_or q (id_in w));
        elsewhere = changes.elsewhere;
      })
    where
      there : (q : Value) → q ≡ id_in w → now (written old.versions stamp.time w) q ≡ held bag s q
      there q same =
          subst (λ i. now (written old.versions stamp.time w) i ≡ held bag s i) (sym same)
          (written_here old.new_map (id_in w) old.versions stamp.time w (write_of old w acts) ∙ sym changes.here)

      others : (q : Value) → q ≢ id_in w → now (written old.versions stamp.time w) q ≡ held bag s q
      others q ne =
          written_there old.new_map (id_in w) old.versions stamp.time w (write_of old w acts) q ne
          ∙ holds_now setup state clones cluster keeps s ready.inside ready.free q ∙ sym (changes.beside q ne)

  -- a document in the place of another
  module _ (d e : Document) (found : held state.bag s (id_of d) ≡ Some d) (was : IsWhole d) (whole : IsWhole e) (same_id : field_of e (codes "_id") ≡ field_of d (codes "_id"))
      (ids : id_of e ≡ id_of d) (owner : owner_of state.map e ≡ s) (bag : Bag) (changes : Changes bag (id_of d) (Some e)) where
    replaces_at : MayReplace (shard_in cluster s).shard d e
    replaces_at = (holds_now setup state clones cluster keeps s ready.inside ready.free (id_of d) ∙ found, (whole_decides e).1 whole, ids)

    owned : (shard_in cluster s).shard.which ≡ Old → IsWhole e × (owner_of setup.old_map e ≡ s)
    owned which = (whole, sym (ap (λ m. owner_of m e) (old_in_force which)) ∙ owner)

    -- where it is the same one, nothing is written
    same_bag : d ≡ e → bag ≡ state.bag
    same_bag same = same_by_place bag state.bag (λ k q. ⊎_elim (λ here. at k q here (same_or q (id_of d))) (λ ne. changes.elsewhere k ne q) (same_place k))
      where
        at : (k : ℕ) (q : Value) → k ≡ s → (q ≡ id_of d) ⊎ (q ≢ id_of d) → held bag k q ≡ held state.bag k q
        at k q here (inl same_q) =
            (λ i. held bag (here i) (same_q i)) ∙ changes.here ∙ ap Some (sym same) ∙ sym found ∙ sym (λ i. held state.bag (here i) (same_q i))
        at k q here (inr ne) = ap (λ n. held bag n q) here ∙ changes.beside q ne ∙ sym (ap (λ n. held state.bag n q) here)

        same_place : (k : ℕ) → (k ≡ s) ⊎ (k ≢ s)
        same_place k = ⊎_elim (λ h. inl h.1) (λ h. inr h.1) (eqb_tells k s)

    pub turned_keeps : (later : Clones) × Keeps setup (record state { bag = bag }) later
        (with_written s (done_by stamp (decided_turn (shard_in cluster s).shard d e) (shard_in cluster s).shard) clocks cluster)
    turned_keeps = by (compare_documents d e) refl
      where
        changed : (b : Bool) → names_key old (change_between d e) ≡ b → (then : Shard) → then ≡ wrote stamp 0 (cond b (Rekeys d e) (Turns d (change_between d e) e)) old
            → (later : Clones) × Keeps setup (record state { bag = bag }) later (with_written s then clocks cluster)
        changed true names then is = one_write 0 (Rekeys d e) then bag (omega arith) replaces_at owned is changes
        changed false names then is =
            one_write 0 (Turns d (change_between d e) e) then bag (omega arith) (turns_at old d e replaces_at was whole names)
            (λ which. (
              owned which,
              (HasRisingNames-assigned d e was.rising whole.rising, names_others old d e replaces_at was whole names setup.old_map (keeps.donors s ready.inside).of.old_map same_id),
            ))
            is changes

        unchanged : d ≡ e → (then : Shard) → then ≡ old → (later : Clones) × Keeps setup (record state { bag = bag }) later (with_written s then clocks cluster)
        unchanged same then is = (
          clones,
          subst (λ (x : Bag). Keeps setup (record state { bag = x }) clones (with_written s then clocks cluster)) (sym (same_bag same))
              (subst (λ (l : List ShardCell). Keeps setup state clones (record cluster { shards = l; clocks = clocks }))
              (sym (ap (λ (x : Shard). (with_written s x clocks cluster).shards) is ∙ set-get_or cluster.shards s no_shard))
              (clocks_keep setup state clones cluster keeps clocks rise)),
        )

        by : (r : Ordering) → compare_documents d e ≡ r → (later : Clones) × Keeps setup (record state { bag = bag }) later
            (with_written s (done_by stamp (decided_turn (shard_in cluster s).shard d e) (shard_in cluster s).shard) clocks cluster)
        by Equal tie =
            unchanged (documents_same d e tie) (done_by stamp (decided_turn old d e) old)
            (ap (λ r. done_by stamp (cond (is_eq r) (Says (Matched false)) (Writes (turned old d e) (Matched true))) old) tie)
        by Less tie =
            changed (names_key old (change_between d e)) refl (done_by stamp (decided_turn old d e) old)
            (ap (λ r. done_by stamp (cond (is_eq r) (Says (Matched false)) (Writes (turned old d e) (Matched true))) old) tie)
        by Greater tie =
            changed (names_key old (change_between d e)) refl (done_by stamp (decided_turn old d e) old)
            (ap (λ r. done_by stamp (cond (is_eq r) (Says (Matched false)) (Writes (turned old d e) (Matched true))) old) tie)
