-- The coordinator leaves a phase whose end decides neither the fetch time nor the mark.
use Rattle.std.proofs.Common.{◌≡◌, ◌<◌, ℕ, Bool, true, false, cond, not, length, slice_index_or, Some, None, refl, sym, ap, subst, ◌∙◌}
use Rattle.std.proofs.lemmas.List.{length-replicate}
use Rattle.resh_cells.specs.Cells.{lanes_of, links_of, shard_in}
use Rattle.resh_cells.specs.Clocks.{clock_of}
use Rattle.resh_cells.specs.declared.cell.Cell.TheVariants as cell
use Rattle.resh_cells.specs.declared.cluster.Cluster.{Cluster}
use Rattle.resh_coord.specs.Control.{all_true, is_true_at, left, may_advance, may_leave, with_phase}
use Rattle.resh_coord.specs.declared.cause.End.TheVariants.{Committed, Aborted}
use Rattle.resh_coord.specs.declared.phase.Phase.{Phase}
use Rattle.resh_coord.specs.declared.phase.Phase.TheVariants as phase
use Rattle.resh_donor.specs.States as donor
use Rattle.resh_donor.specs.declared.phase.DonorPhase.TheVariants.{Done}
use Rattle.resh_events.specs.rows.Advance as advance
use Rattle.resh_model.specs.Orders.{State}
use Rattle.resh_place.specs.Lanes.{held_in}
use Rattle.resh_progress.specs.Kinds.{ToInstall}
use Rattle.resh_progress.specs.Tellings.{has}
use Rattle.resh_setup.specs.declared.setup.Setup.{Setup}
use Rattle.resh_stamp.specs.declared.stamp.Stamp.{Stamp}
use Rattle.resh_versions.specs.Standing.{now}
use Rattle.resh_invariant.specs.Courses.{IsDonorIn, IsEnded, IsGoing, IsStage, course_of, is_early}
use Rattle.resh_invariant.specs.Keeping.{HoldsPlace, Keeps}
use Rattle.resh_invariant.specs.Recipients.{IsReported}
use Rattle.resh_invariant.specs.Sources.{Clones, sources_of}
use Rattle.resh_invariant.proofs.Ones.{both, never}
use Rattle.resh_invariant.proofs.Steering.{donor_steers, recipient_steers}
use Rattle.resh_control_rows.specs.Laws.{is_plain}
use Rattle.resh_control_rows.proofs.Marks.{each_of, none_marked}

some_none : {X : Type 0} (x : X) → Some x ≡ None → ⊥
some_none x e = cc

module _ (setup : Setup) (state : State) (clones : Clones) (cluster : Cluster) (keeps : Keeps setup state clones cluster) where
  -- a phase that is entered, in which nobody was told and nobody reported
  module _ (q : Phase) (stage : IsStage q cluster.control.decision state.fate)
      (donors : (s : ℕ) → s < length setup.shards → IsDonorIn q cluster.control.decision false (shard_in cluster s).donor)
      (late : cluster.control.decision ≡ None → is_early q ≡ false → is_early cluster.control.phase ≡ false)
      (reports : (r : ℕ) (told : Bool) → told ≡ false → IsReported setup q told (slice_index_or cluster.control.clashes r None) (shard_in cluster r).donor
      (sources_of clones cluster r) (links_of cluster r) (lanes_of cluster r))
      (contents : (s : ℕ) → s < length setup.shards → HoldsPlace setup q (shard_in cluster s) (lanes_of cluster s) state.bag s) where
    entered : Keeps setup state clones (record cluster { control = with_phase q cluster.control })
    entered = record {
      shard_count = keeps.shard_count;
      clock_count = keeps.clock_count;
      lane_rows = keeps.lane_rows;
      link_rows = keeps.link_rows;
      client_count = keeps.client_count;
      answered = keeps.answered;
      noted = record {
        told = length-replicate (length cluster.control.told) false ∙ keeps.noted.told;
        reported = length-replicate (length cluster.control.reported) false ∙ keeps.noted.reported;
        clashes = keeps.noted.clashes;
      };
      decided = record {
        stage = stage;
        map = keeps.decided.map;
        placed = keeps.decided.placed;
        whole = keeps.decided.whole;
        fetch = keeps.decided.fetch;
      };
      clients = keeps.clients;
      donors = λ s lt. donor_steers setup s (course_of cluster.control) (course_of (with_phase q cluster.control))
          (is_true_at cluster.control.told s) (is_true_at (with_phase q cluster.control).told s) (clock_of cluster.clocks cell.Coordinator) (clones s)
          (clock_of cluster.clocks (cell.Shard s)) (shard_in cluster s)
          (subst (λ t. IsDonorIn q cluster.control.decision t (shard_in cluster s).donor) (sym (none_marked (length cluster.control.told) s)) (donors s lt))
          (λ none on. (none, late none on)) (keeps.donors s lt);
      recipients = λ r lt. recipient_steers setup r (course_of cluster.control) (course_of (with_phase q cluster.control))
          (is_true_at cluster.control.reported r) (is_true_at (with_phase q cluster.control).reported r)
          (slice_index_or cluster.control.clashes r None) (slice_index_or cluster.control.clashes r None) (shard_in cluster r).donor
          (sources_of clones cluster r) (links_of cluster r) (lanes_of cluster r) (λ none. none)
          (reports r (is_true_at (with_phase q cluster.control).reported r) (none_marked (length cluster.control.reported) r)) (keeps.recipients r lt);
      contents = contents;
    }

  module _ (is : may_advance cluster.control ≡ true) where
    -- each shard was told
    told : (p : Phase) → cluster.control.phase ≡ p → (may_leave p cluster.control.told cluster.control.reported ≡ true → all_true cluster.control.told ≡ true)
        → (s : ℕ) → s < length setup.shards → IsDonorIn p cluster.control.decision true (shard_in cluster s).donor
    told p e all s lt =
        subst (λ t. IsDonorIn p cluster.control.decision t (shard_in cluster s).donor)
        (each_of (λ mark. mark) cluster.control.told false (all (subst (λ x. may_leave x cluster.control.told cluster.control.reported ≡ true) e is)) s (subst (λ n. s < n) (sym keeps.noted.told) lt))
        (subst (λ x. IsDonorIn x cluster.control.decision (is_true_at cluster.control.told s) (shard_in cluster s).donor) e (keeps.donors s lt).donor)

    stage_at : (p : Phase) → cluster.control.phase ≡ p → IsStage p cluster.control.decision state.fate
    stage_at p e = subst (λ x. IsStage x cluster.control.decision state.fate) e keeps.decided.stage

    held_at : (p : Phase) → cluster.control.phase ≡ p → (s : ℕ) → s < length setup.shards → HoldsPlace setup p (shard_in cluster s) (lanes_of cluster s) state.bag s
    held_at p e s lt = subst (λ x. HoldsPlace setup x (shard_in cluster s) (lanes_of cluster s) state.bag s) e (keeps.contents s lt)

    from_cloning : cluster.control.phase ≡ phase.Cloning → Keeps setup state clones (record cluster { control = with_phase phase.Applying cluster.control })
    from_cloning e = entered phase.Applying (stage_at phase.Cloning e)
        (told phase.Cloning e (λ h. (both (all_true cluster.control.told) (all_true cluster.control.reported) h).0))
        (λ none on. ap is_early e) (λ r t off. tt) (held_at phase.Cloning e)

    from_applying : cluster.control.phase ≡ phase.Applying → Keeps setup state clones (record cluster { control = with_phase phase.BlockingWrites cluster.control })
    from_applying e = entered phase.BlockingWrites (stage_at phase.Applying e)
        (λ s lt. subst (λ x. IsDonorIn x cluster.control.decision (is_true_at cluster.control.told s) (shard_in cluster s).donor) e (keeps.donors s lt).donor)
        (λ none on. ap is_early e) (λ r t off. λ on. never (sym on ∙ off)) (held_at phase.Applying e)

    from_committing : cluster.control.phase ≡ phase.Committing → Keeps setup state clones (record cluster { control = with_phase phase.Done cluster.control })
    from_committing e =
        let stage : IsStage phase.Committing cluster.control.decision state.fate = stage_at phase.Committing e in
        let installed : (s : ℕ) → s < length setup.shards → IsGoing Done (shard_in cluster s).donor = told phase.Committing e (λ h. h) in
        entered phase.Done (Committed, stage.0, stage.1)
        (λ s lt. subst (λ x. IsEnded x (shard_in cluster s).donor) (sym stage.0) (installed s lt))
        (λ none on. absurd (some_none Committed (sym stage.0 ∙ none))) (λ r t off. tt)
        (λ s lt id. sym (ap (λ t. cond (not t) (held_in setup.lanes (lanes_of cluster s) id).output (now (shard_in cluster s).shard.versions id)) (ap (λ (x : donor.State). has x.told ToInstall) (installed s lt)))
        ∙ held_at phase.Committing e s lt id)

    from_aborting : cluster.control.phase ≡ phase.Aborting → Keeps setup state clones (record cluster { control = with_phase phase.Done cluster.control })
    from_aborting e =
        let stage : IsStage phase.Aborting cluster.control.decision state.fate = stage_at phase.Aborting e in
        let released : (s : ℕ) → s < length setup.shards → donor.IsReleased (shard_in cluster s).donor = told phase.Aborting e (λ h. h) in
        entered phase.Done (Aborted stage.0, stage.1, stage.2)
        (λ s lt. subst (λ x. IsEnded x (shard_in cluster s).donor) (sym stage.1) (released s lt))
        (λ none on. absurd (some_none (Aborted stage.0) (sym stage.1 ∙ none))) (λ r t off. tt) (held_at phase.Aborting e)

    leaves : (p : Phase) → cluster.control.phase ≡ p → is_plain p ≡ true → (time : ℕ) → Keeps setup state clones (record cluster { control = left p time cluster.control })
    leaves phase.Cloning e plain time = from_cloning e
    leaves phase.Applying e plain time = from_applying e
    leaves phase.Committing e plain time = from_committing e
    leaves phase.Aborting e plain time = from_aborting e
    leaves phase.Initializing e plain time = never (sym plain)
    leaves phase.PreparingToDonate e plain time = never (sym plain)
    leaves phase.BlockingWrites e plain time = never (sym plain)
    leaves phase.Done e plain time = never (sym plain)

    pub advance_keeps : (stamp : Stamp) → is_plain cluster.control.phase ≡ true → Keeps setup state clones (advance.change stamp cluster)
    advance_keeps stamp plain =
        subst (λ t. Keeps setup state clones (record cluster { control = cond t (left cluster.control.phase stamp.time cluster.control) cluster.control })) (sym is)
        (leaves cluster.control.phase refl plain stamp.time)
