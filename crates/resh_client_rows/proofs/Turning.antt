-- What a command does, on shards that are ready, keeps the invariant.
use Rattle.std.proofs.Common.{◌≡◌, ◌≢◌, ◌<◌, ◌^◌, ◌==◌, ◌||◌, ◌⊎◌, inl, inr, ⊎_elim, ℕ, Bool, true, false, cond, codes, [], ◌∷◌, Some, None, is_some, refl, sym, ap, subst, ◌∙◌, arith}
use Rattle.std.proofs.lemmas.Bool.{eqb-true}
use Rattle.std.proofs.lemmas.Bool.Decides.{eqb_tells}
use Rattle.std.specs.Ordering.{is_eq}
use Rattle.resh_value.specs.Lookup.{field_of, id_of}
use Rattle.resh_value.specs.Order.{compare_of}
use Rattle.resh_value.specs.Whole.{IsWhole}
use Rattle.resh_value.proofs.WholeLaws.{whole_decides}
use Rattle.resh_bag.specs.Answer.{Doing, adds, replaces, removes, says, bag_after, doing, text_limit}
use Rattle.resh_bag.specs.Bag.{Bag, Document, IsPlaced, held, put, without}
use Rattle.resh_bag.specs.Parts.{is_among, places_of}
use Rattle.resh_bag.specs.WholeLaws.{BringsWhole, HoldsWhole}
use Rattle.resh_bag.proofs.answers.Finding.{doings_find}
use Rattle.resh_bag.proofs.bags.BagLaws.{puts_one, removes_one}
use Rattle.resh_bag.proofs.bags.Placed.{after_placed, put_placed, without_placed}
use Rattle.resh_bag.proofs.bags.WholeHeld.{stays_whole, update_keeps_id}
use Rattle.resh_bag.proofs.shards.ByShard.{moves_by_halves, put_at}
use Rattle.resh_cells.specs.Cells.{no_shard, shard_in}
use Rattle.resh_cells.specs.Clocks.{clock_of}
use Rattle.resh_cells.specs.declared.cell.Cell.TheVariants as cell
use Rattle.resh_cells.specs.declared.cluster.Clocks.{Clocks}
use Rattle.resh_cells.specs.declared.cluster.Cluster.{Cluster}
use Rattle.resh_cells.specs.declared.cluster.ShardCell.{ShardCell}
use Rattle.resh_chunks.specs.Chunks.{owner_of}
use Rattle.resh_command.specs.declared.command.Command.{Command}
use Rattle.resh_events.specs.rows.Client.{did, done_at, moved}
use Rattle.resh_model.specs.Orders.{State}
use Rattle.resh_ops.proofs.ActionLaws.{keeps_id}
use Rattle.resh_ops.specs.Updates.{IsUpdate}
use Rattle.resh_setup.specs.Validity.{IsValid}
use Rattle.resh_setup.specs.declared.setup.Setup.{Setup}
use Rattle.resh_shard.specs.Decisions.{decided_turn, done_by}
use Rattle.resh_shard.specs.Shards.{Shard, taken_in, taken_out, taken_out_at, wrote}
use Rattle.resh_shard.specs.Writes.{shard_id}
use Rattle.resh_shard.specs.declared.act.Decision.TheVariants.{Leaves}
use Rattle.resh_shard.specs.declared.act.Write.TheVariants.{Puts, Takes}
use Rattle.resh_stamp.specs.declared.stamp.Stamp.{Stamp}
use Rattle.resh_versions.specs.Standing.{now}
use Rattle.resh_invariant.specs.Frames.{AreLater}
use Rattle.resh_invariant.specs.Keeping.{Keeps}
use Rattle.resh_invariant.specs.Sources.{Clones}
use Rattle.resh_invariant.proofs.Framing.{clocks_keep, there_set}
use Rattle.resh_invariant.proofs.Ones.{at_set}
use Rattle.resh_write_rows.specs.Laws.{WriteKeeps, with_written}
use Rattle.resh_client_rows.proofs.Clocks.{sets_later, then_later, with_time}
use Rattle.resh_client_rows.proofs.Holding.{holds_now}
use Rattle.resh_client_rows.proofs.Reaching.{Among, among_first}
use Rattle.resh_client_rows.proofs.Writing.{IsReady, old_in_force, one_write, turned_keeps}

some_same : {X : Type 0} (x y : X) → Some x ≡ Some y → x ≡ y
some_same x y e = cc

-- with a whole document put, a collection is one of whole documents
put_whole : (bag : Bag) (s : ℕ) (d : Document) → HoldsWhole bag → IsWhole d → HoldsWhole (put bag s d)
put_whole bag s d whole is t q x there = by (s == t) (is_eq (compare_of q (id_of d))) (sym (put_at bag s d q t) ∙ there)
  where
    by : (b c : Bool) → cond b (cond c (Some d) (held bag t q)) (held bag t q) ≡ Some x → IsWhole x
    by true true e = subst IsWhole (some_same d x e) is
    by true false e = whole t q x e
    by false c e = whole t q x e

module _ (writes : WriteKeeps) (setup : Setup) (valid : IsValid setup) (stamp : Stamp) (node : stamp.node < 2 ^ 32) (state : State) (clones : Clones) (cluster : Cluster)
    (keeps : Keeps setup state clones cluster) (clocks : Clocks) (rise : AreLater cluster.clocks clocks) (command : Command) (brings : BringsWhole command) where
  -- the collection after it, by what it does
  module _ (x : Doing) (e : doing state.map state.bag command ≡ x) where
    placed_after : IsPlaced state.map (bag_after state.bag x)
    placed_after = subst (λ y. IsPlaced state.map (bag_after state.bag y)) e (after_placed state.map state.bag keeps.decided.placed command)

    whole_after : HoldsWhole (bag_after state.bag x)
    whole_after = subst (λ y. HoldsWhole (bag_after state.bag y)) e (stays_whole.does state.map state.bag command keeps.decided.whole brings)

  -- a document comes
  added : (s : ℕ) (d : Document) → doing state.map state.bag command ≡ adds s d → IsReady setup cluster stamp clocks s
      → (later : Clones) × Keeps setup (record state { bag = put state.bag s d }) later (record (done_at stamp s (adds s d) cluster) { clocks = clocks })
  added s d e ready =
      let a = doings_find.added state.map state.bag command s d e in
      let whole : IsWhole d = subst BringsWhole a.is brings in
      one_write writes setup valid stamp node state clones cluster keeps clocks rise s ready 0 (Puts d) (wrote stamp 0 (Puts d) (shard_in cluster s).shard) (put state.bag s d) (omega arith)
      ((whole_decides d).1 whole, holds_now setup state clones cluster keeps s ready.inside ready.free (id_of d) ∙ a.free)
      (λ which. (
        whole,
        sym (ap (λ m. owner_of m d) (old_in_force writes setup valid stamp node state clones cluster keeps clocks rise s ready which)) ∙ sym a.owner,
      ))
      refl
      (record {
        placed = placed_after (adds s d) e;
        whole = whole_after (adds s d) e;
        here = puts_one.there state.bag s d;
        beside = λ q ne. puts_one.elsewhere state.bag s s d q (inr ne);
        elsewhere = λ k ne q. puts_one.elsewhere state.bag s k d q (inl ne);
      })

  -- a document goes
  removed : (s : ℕ) (d : Document) → doing state.map state.bag command ≡ removes s d → IsReady setup cluster stamp clocks s
      → (later : Clones) × Keeps setup (record state { bag = without state.bag s (id_of d) }) later (record (done_at stamp s (removes s d) cluster) { clocks = clocks })
  removed s d e ready =
      let r = doings_find.removed state.map state.bag command s d e in
      one_write writes setup valid stamp node state clones cluster keeps clocks rise s ready 0 (Takes d) (wrote stamp 0 (Takes d) (shard_in cluster s).shard) (without state.bag s (id_of d))
      (omega arith)
      (holds_now setup state clones cluster keeps s ready.inside ready.free (id_of d)
      ∙ ap (held state.bag s) (keeps.decided.placed.by_id s (id_of r.filter) d r.hit.there) ∙ r.hit.there)
      (λ which. tt) refl
      (record {
        placed = placed_after (removes s d) e;
        whole = whole_after (removes s d) e;
        here = removes_one.there state.bag s (id_of d);
        beside = λ q ne. removes_one.elsewhere state.bag s s (id_of d) q (inr ne);
        elsewhere = λ k ne q. removes_one.elsewhere state.bag s k (id_of d) q (inl ne);
      })

  -- a document in the place of another
  module _ (s : ℕ) (d : Document) (t : ℕ) (f : Document) (e : doing state.map state.bag command ≡ replaces s d t f) where
    pub record Replaced : Type 0 where
      pub found : held state.bag s (id_of d) ≡ Some d
      pub same_id : field_of f (codes "_id") ≡ field_of d (codes "_id")
      pub ids : id_of f ≡ id_of d
      pub was : IsWhole d
      pub whole : IsWhole f
      pub owner : t ≡ owner_of state.map f
      pub free : (t ≡ s) ⊎ (held state.bag t (id_of f) ≡ None)

    replaced : Replaced
    replaced =
        let r = doings_find.replaced state.map state.bag command s d t f e in
        let update : IsUpdate r.update = subst BringsWhole r.is brings in
        let found : held state.bag s (id_of d) ≡ Some d = ap (held state.bag s) (keeps.decided.placed.by_id s (id_of r.filter) d r.hit.there) ∙ r.hit.there in
        record {
          found = found;
          same_id = keeps_id text_limit r.update d f update r.made;
          ids = update_keeps_id state.map state.bag r.filter r.update s d t f update (ap (doing state.map state.bag) (sym r.is) ∙ e);
          was = keeps.decided.whole s (id_of d) d found;
          whole = whole_after (replaces s d t f) e t (id_of f) f (puts_one.there (without state.bag s (id_of d)) t f);
          owner = r.owner;
          free = r.free;
        }

    abbrev bag : Bag
    bag = put (without state.bag s (id_of d)) t f

    -- where it stays
    stayed : (t == s) ≡ true → IsReady setup cluster stamp clocks s
        → (later : Clones) × Keeps setup (record state { bag = put (without state.bag s (id_of d)) t f }) later (record (done_at stamp s (replaces s d t f) cluster) { clocks = clocks })
    stayed here ready =
        let same : t ≡ s = eqb-true t s here in
        subst
        (λ b. (later : Clones) × Keeps setup (record state { bag = bag }) later
        (with_written s (done_by stamp (cond b (decided_turn (shard_in cluster s).shard d f) (Leaves (shard_id t) f)) (shard_in cluster s).shard) clocks cluster)) (sym here)
        (turned_keeps writes setup valid stamp node state clones cluster keeps clocks rise s ready d f replaced.found replaced.was replaced.whole replaced.same_id replaced.ids
        (sym replaced.owner ∙ same) bag
        (record {
          placed = placed_after (replaces s d t f) e;
          whole = whole_after (replaces s d t f) e;
          here = (λ i. held bag (sym same i) (sym replaced.ids i)) ∙ puts_one.there (without state.bag s (id_of d)) t f;
          beside = λ q ne.
              puts_one.elsewhere (without state.bag s (id_of d)) t s f q (inr (λ k. ne (k ∙ replaced.ids))) ∙ removes_one.elsewhere state.bag s s (id_of d) q (inr ne);
          elsewhere = λ k ne q.
              puts_one.elsewhere (without state.bag s (id_of d)) t k f q (inl (λ h. ne (h ∙ same))) ∙ removes_one.elsewhere state.bag s k (id_of d) q (inl ne);
        }))

    -- where it moves: it is taken in first, and then taken out
    module _ (apart : t ≢ s) (from : IsReady setup cluster stamp clocks s) (to : IsReady setup cluster stamp clocks t) where
      none_there : held state.bag t (id_of f) ≡ None
      none_there = ⊎_elim (λ same. absurd (apart same)) (λ none. none) replaced.free

      free_there : now (shard_in cluster t).shard.versions (id_of f) ≡ None
      free_there = holds_now setup state clones cluster keeps t to.inside to.free (id_of f) ∙ none_there

      abbrev first_clocks : Clocks
      first_clocks = with_time t stamp.time cluster.clocks

      first_rise : AreLater cluster.clocks first_clocks
      first_rise = sets_later cluster.clocks t stamp.time to.before

      abbrev first_bag : Bag
      first_bag = put state.bag t f

      abbrev first_state : State
      first_state = record state { bag = first_bag }

      abbrev come : Shard
      come = taken_in stamp f (shard_in cluster t).shard

      abbrev first_cluster : Cluster
      first_cluster = with_written t come first_clocks cluster

      first_placed : IsPlaced state.map first_bag
      first_placed = subst (λ n. IsPlaced state.map (put state.bag n f)) (sym replaced.owner) (put_placed state.map state.bag keeps.decided.placed f)

      first_ready : IsReady setup cluster stamp first_clocks t
      first_ready = record {
        inside = to.inside;
        free = to.free;
        before = to.before;
        set = there_set cluster.clocks.shards t stamp.time 0 (subst (λ n. t < n) (sym keeps.clock_count) to.inside);
      }

      first_keeps : (later : Clones) × Keeps setup first_state later first_cluster
      first_keeps =
          one_write writes setup valid stamp node state clones cluster keeps first_clocks first_rise t first_ready 1 (Puts f) come first_bag (omega arith)
          ((whole_decides f).1 replaced.whole, free_there)
          (λ which. (
            replaced.whole,
            sym (ap (λ m. owner_of m f) (old_in_force writes setup valid stamp node state clones cluster keeps first_clocks first_rise t first_ready which)) ∙ sym replaced.owner,
          ))
          (ap (λ o. cond (is_some o) (shard_in cluster t).shard (wrote stamp 1 (Puts f) (shard_in cluster t).shard)) free_there)
          (record {
            placed = first_placed;
            whole = put_whole state.bag t f keeps.decided.whole replaced.whole;
            here = puts_one.there state.bag t f;
            beside = λ q ne. puts_one.elsewhere state.bag t t f q (inr ne);
            elsewhere = λ k ne q. puts_one.elsewhere state.bag t k f q (inl ne);
          })

      -- the other shard is as it was
      same_from : shard_in first_cluster s ≡ shard_in cluster s
      same_from =
          ⊎_elim (λ same. same) (λ there. absurd (apart (sym there.0))) (at_set cluster.shards t s (record (shard_in cluster t) { shard = come }) no_shard)

      same_clock : clock_of first_clocks (cell.Shard s) ≡ clock_of cluster.clocks (cell.Shard s)
      same_clock = ⊎_elim (λ same. same) (λ there. absurd (apart (sym there.0))) (at_set cluster.clocks.shards t s stamp.time 0)

      then_ready : IsReady setup first_cluster stamp clocks s
      then_ready = record {
        inside = from.inside;
        free = ap (λ (x : ShardCell). x.shard.blocked) same_from ∙ from.free;
        before = subst (λ n. n < stamp.time) (sym same_clock) from.before;
        set = from.set;
      }

      found_then : held first_bag s (id_of d) ≡ Some d
      found_then = puts_one.elsewhere state.bag t s f (id_of d) (inl (λ same. apart (sym same))) ∙ replaced.found

      held_then : now (shard_in first_cluster s).shard.versions (id_of d) ≡ Some d
      held_then = holds_now setup first_state first_keeps.0 first_cluster first_keeps.1 s then_ready.inside then_ready.free (id_of d) ∙ found_then

      halves : without first_bag s (id_of d) ≡ put (without state.bag s (id_of d)) t f
      halves = moves_by_halves state.bag s t (id_of d) f apart

      then_keeps : (later : Clones) × Keeps setup (record state { bag = without first_bag s (id_of d) }) later
          (with_written s (taken_out stamp (id_of d) (shard_in first_cluster s).shard) clocks first_cluster)
      then_keeps =
          one_write writes setup valid stamp node first_state first_keeps.0 first_cluster first_keeps.1 clocks (then_later cluster.clocks t stamp.time to.before clocks rise to.set) s then_ready
          0 (Takes d) (taken_out stamp (id_of d) (shard_in first_cluster s).shard) (without first_bag s (id_of d)) (omega arith) held_then (λ which. tt)
          (ap (λ o. taken_out_at stamp o (shard_in first_cluster s).shard) held_then)
          (record {
            placed = without_placed state.map first_bag first_placed s (id_of d);
            whole = subst HoldsWhole (sym halves) (whole_after (replaces s d t f) e);
            here = removes_one.there first_bag s (id_of d);
            beside = λ q ne. removes_one.elsewhere first_bag s s (id_of d) q (inr ne);
            elsewhere = λ k ne q. removes_one.elsewhere first_bag s k (id_of d) q (inl ne);
          })

      moves : (later : Clones) × Keeps setup (record state { bag = put (without state.bag s (id_of d)) t f }) later (record (moved stamp s d t f cluster) { clocks = clocks })
      moves = (
        then_keeps.0,
        subst (λ (b : Bag). Keeps setup (record state { bag = b }) then_keeps.0 (with_written s (taken_out stamp (id_of d) (shard_in first_cluster s).shard) clocks first_cluster)) halves
            then_keeps.1,
      )

    goes : ((k : ℕ) → Among (s ∷ t ∷ []) k → IsReady setup cluster stamp clocks k)
        → (later : Clones) × Keeps setup (record state { bag = put (without state.bag s (id_of d)) t f }) later (record (did stamp (replaces s d t f) cluster) { clocks = clocks })
    goes ready =
        ⊎_elim
        (λ k. subst (λ b. (later : Clones) × Keeps setup (record state { bag = bag }) later
        (record (cond b (done_at stamp s (replaces s d t f) cluster) (moved stamp s d t f cluster)) { clocks = clocks })) (sym k.0) (stayed k.0 here))
        (λ k. subst (λ b. (later : Clones) × Keeps setup (record state { bag = bag }) later
        (record (cond b (done_at stamp s (replaces s d t f) cluster) (moved stamp s d t f cluster)) { clocks = clocks })) (sym k.0) (moves k.1 here there))
        (eqb_tells t s)
      where
        here : IsReady setup cluster stamp clocks s
        here = ready s (among_first s (t ∷ []))

        there : IsReady setup cluster stamp clocks t
        there = ready t (later (s == t))
          where
            later : (b : Bool) → (b || is_among (t ∷ []) t) ≡ true
            later true = refl
            later false = among_first t []

  pub does : (x : Doing) → doing state.map state.bag command ≡ x → ((s : ℕ) → Among (places_of x) s → IsReady setup cluster stamp clocks s)
      → (later : Clones) × Keeps setup (record state { bag = bag_after state.bag x }) later (record (did stamp x cluster) { clocks = clocks })
  does (adds s d) e ready = added s d e (ready s (among_first s []))
  does (removes s d) e ready = removed s d e (ready s (among_first s []))
  does (says reply) e ready = (clones, clocks_keep setup state clones cluster keeps clocks rise)
  does (replaces s d t f) e ready = goes s d t f e ready
