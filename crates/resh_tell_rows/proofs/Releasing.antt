-- A shard is told to release: it goes on serving under the old map, and takes part in nothing more.
use Rattle.std.proofs.Common.{◌≡◌, ◌≢◌, ◌≤◌, ◌<◌, ℕ, max, Bool, true, false, List, [], length, map, slice_index_or, slice_set, Option, Some, None, refl, sym, ap, subst, ◌∙◌, arith}
use Rattle.std.proofs.lemmas.List.{length-set}
use Rattle.resh_cells.specs.Cells.{lanes_of, links_of, shard_in, with_shard}
use Rattle.resh_cells.specs.Clocks.{clock_of}
use Rattle.resh_cells.specs.declared.cell.Cell.TheVariants as cell
use Rattle.resh_cells.specs.declared.cluster.Cluster.{Cluster}
use Rattle.resh_cells.specs.declared.cluster.ShardCell.{ShardCell}
use Rattle.resh_coord.specs.Control.{is_true_at, message_in}
use Rattle.resh_coord.specs.declared.cause.End.{End}
use Rattle.resh_coord.specs.declared.cause.End.TheVariants.{Aborted}
use Rattle.resh_coord.specs.declared.phase.Phase.TheVariants as phase
use Rattle.resh_donor.specs.States as donor
use Rattle.resh_donor.specs.declared.phase.DonorPhase.{DonorPhase}
use Rattle.resh_donor.specs.declared.phase.DonorPhase.TheVariants.{Unused, PreparingToDonate, Donating, BlockingWrites, Done}
use Rattle.resh_events.specs.rows.Tell as tell
use Rattle.resh_events.specs.rows.Tell.{on_both, with_old_map}
use Rattle.resh_fetcher.specs.Laws.{StandsOn}
use Rattle.resh_lane.specs.Lanes as lane
use Rattle.resh_model.specs.Orders.{State}
use Rattle.resh_progress.specs.Kinds.{Kind, ToBlock, ToDonate, ToInstall, ToPrepare, ToRelease}
use Rattle.resh_progress.specs.Tellings.{has, told_too}
use Rattle.resh_progress.specs.declared.message.Message.TheVariants.{Release}
use Rattle.resh_setup.specs.declared.setup.Setup.{Setup}
use Rattle.resh_shard.specs.Shards.{released}
use Rattle.resh_stamp.specs.declared.stamp.Stamp.{Stamp}
use Rattle.resh_story.proofs.Feeding.{feeds_end}
use Rattle.resh_story.proofs.Keeping.{keeps_story}
use Rattle.resh_versions.proofs.Pruning.{prunes_unseen}
use Rattle.resh_invariant.specs.Courses.{IsDonorIn, IsDropped, IsGoing, IsStage, course_of, is_blocking, is_over, which_by}
use Rattle.resh_invariant.specs.Donors.{IsDonorKept}
use Rattle.resh_invariant.specs.Frames.{longer, with_all}
use Rattle.resh_invariant.specs.Keeping.{HoldsPlace, Keeps}
use Rattle.resh_invariant.specs.Recipients.{IsReported}
use Rattle.resh_invariant.specs.Sources.{Clones, sources_of}
use Rattle.resh_invariant.proofs.Framing.{shards_keep}
use Rattle.resh_invariant.proofs.Ones.{never}
use Rattle.resh_control_rows.proofs.Reporting.{same_clocks}
use Rattle.resh_tell_rows.proofs.Ending.{close, recipient_ends}
use Rattle.resh_tell_rows.proofs.Marking.{marked, nothing_more, others_marks, tests}
use Rattle.resh_tell_rows.proofs.Pruned.{pruned_items}

-- a machine that goes on is released, and was not told to install
released_from : (to : DonorPhase) → to ≢ Done → donor.after (record { phase = to; told = donor.told_until to }) ToRelease
    ≡ record { phase = Done; told = told_too (donor.told_until to) ToRelease }
released_from Unused ne = refl
released_from PreparingToDonate ne = refl
released_from Donating ne = refl
released_from BlockingWrites ne = refl
released_from Done ne = absurd (ne refl)

not_installed : (to : DonorPhase) → to ≢ Done → has (donor.told_until to) ToInstall ≡ false
not_installed Unused ne = refl
not_installed PreparingToDonate ne = refl
not_installed Donating ne = refl
not_installed BlockingWrites ne = refl
not_installed Done ne = absurd (ne refl)

some_none : {X : Type 0} (x : X) → Some x ≡ None → ⊥
some_none x e = cc

module _ (stands : StandsOn) (setup : Setup) (state : State) (clones : Clones) (cluster : Cluster) (keeps : Keeps setup state clones cluster)
    (s : ℕ) (aborting : cluster.control.phase ≡ phase.Aborting) (is : tell.may cluster s ≡ true) (stamp : Stamp)
    (set : clock_of cluster.clocks (cell.Shard s) ≡ stamp.time) where
  s_in : s < length setup.shards
  s_in = (tests setup state clones cluster keeps s is).0

  decided : cluster.control.decision ≢ None
  decided none =
      let stage : IsStage phase.Aborting cluster.control.decision state.fate = subst (λ p. IsStage p cluster.control.decision state.fate) aborting keeps.decided.stage in
      some_none (Aborted stage.0) (sym stage.1 ∙ none)

  going : IsDropped false (shard_in cluster s).donor
  going =
      subst (λ t. IsDonorIn phase.Aborting cluster.control.decision t (shard_in cluster s).donor) (tests setup state clones cluster keeps s is).1
      (subst (λ p. IsDonorIn p cluster.control.decision (is_true_at cluster.control.told s) (shard_in cluster s).donor) aborting (keeps.donors s s_in).donor)

  abbrev to : DonorPhase
  to = going.0

  abbrev next : ShardCell
  next = with_shard (with_old_map stamp.time) (on_both Release (shard_in cluster s))

  is_released : next.donor ≡ record { phase = Done; told = told_too (donor.told_until to) ToRelease }
  is_released = ap (λ x. donor.after x ToRelease) going.2 ∙ released_from to going.1

  released_now : donor.IsReleased next.donor
  released_now = record {
    phase = to;
    before = going.1;
    done = ap (λ (x : donor.State). x.phase) is_released;
    told = ap (λ (x : donor.State). x.told) is_released;
  }

  -- what was told before is told now
  was_told : (kind : Kind) → has (shard_in cluster s).donor.told kind ≡ has (donor.told_until to) kind
  was_told kind = ap (λ (x : donor.State). has x.told kind) going.2

  prepare_told : has next.donor.told ToPrepare ≡ has (shard_in cluster s).donor.told ToPrepare
  prepare_told = ap (λ (x : donor.State). has x.told ToPrepare) is_released ∙ sym (was_told ToPrepare)

  donate_told : has next.donor.told ToDonate ≡ has (shard_in cluster s).donor.told ToDonate
  donate_told = ap (λ (x : donor.State). has x.told ToDonate) is_released ∙ sym (was_told ToDonate)

  block_told : has next.donor.told ToBlock ≡ has (shard_in cluster s).donor.told ToBlock
  block_told = ap (λ (x : donor.State). has x.told ToBlock) is_released ∙ sym (was_told ToBlock)

  install_told : has next.donor.told ToInstall ≡ false
  install_told = ap (λ (x : donor.State). has x.told ToInstall) is_released ∙ not_installed to going.1

  over : is_over next.donor.phase ≡ true
  over = ap is_over released_now.done

  floor_before : (next.shard.versions.floor ≤ cluster.control.fetch_time) → (shard_in cluster s).shard.versions.floor ≤ cluster.control.fetch_time
  floor_before low = first (shard_in cluster s).shard.versions.floor stamp.time cluster.control.fetch_time low
    where
      first : (a b c : ℕ) → max a b ≤ c → a ≤ c
      first a b c le = omega (arith, le)

  donor_kept : IsDonorKept setup s (course_of cluster.control) (is_true_at (slice_set cluster.control.told s true) s) (clock_of cluster.clocks cell.Coordinator)
      (clones s) (clock_of cluster.clocks (cell.Shard s)) next
  donor_kept =
      let kept = keeps.donors s s_in in
      record {
        of = record { number = kept.of.number; old_map = kept.of.old_map; new_map = kept.of.new_map; limit = kept.of.limit };
        donor =
            subst (λ p. IsDonorIn p cluster.control.decision (is_true_at (slice_set cluster.control.told s true) s) next.donor) (sym aborting)
            (subst (λ t. IsDonorIn phase.Aborting cluster.control.decision t next.donor) (sym (marked setup state clones cluster keeps s is)) released_now);
        serves = record {
          names = kept.serves.names ∙ sym prepare_told;
          blocked = sym (ap is_blocking released_now.done);
          which = sym (ap which_by install_told);
        };
        story = keeps_story.prunes (clock_of cluster.clocks (cell.Shard s)) stamp.time (released (shard_in cluster s).shard)
            (keeps_story.releases (clock_of cluster.clocks (cell.Shard s)) (shard_in cluster s).shard kept.story) (omega (arith, set));
        log = kept.log;
        stored = λ off. pruned_items setup.old_map s stamp.time (shard_in cluster s).shard.versions (shard_in cluster s).shard.log.entries kept.story.dated.filed
            (kept.stored (was_told ToInstall ∙ not_installed to going.1));
        prepared = λ on. kept.prepared (sym prepare_told ∙ on);
        named = kept.named;
        past = λ on. kept.past (sym donate_told ∙ on);
        floor = λ more. never (sym over ∙ more);
        cloned = λ low r r_in. kept.cloned (floor_before low) r r_in
            ∙ sym (feeds_end.pruned stamp.time cluster.control.fetch_time r (shard_in cluster s).shard kept.story.dated.filed low);
        unsealed = λ off. kept.unsealed (sym block_told ∙ off);
        whole = λ more. never (sym over ∙ more);
        sealed = λ on. kept.sealed (sym block_told ∙ on);
        items = kept.items;
      }

  pub all_keeps : Keeps setup state clones (with_all s (slice_set cluster.control.told s true) next (map close (links_of cluster s)) (map lane.emptied (lanes_of cluster s)) cluster.clocks cluster)
  all_keeps =
      shards_keep stands setup state clones clones cluster s (slice_set cluster.control.told s true) next (map close (links_of cluster s))
      (map lane.emptied (lanes_of cluster s)) cluster.clocks state.bag keeps (same_clocks cluster) s_in
      (record {
        placed = keeps.decided.placed;
        whole = keeps.decided.whole;
        count = length-set cluster.control.told s true ∙ keeps.noted.told;
        marks = others_marks cluster.control.told s;
        donor = donor_kept;
        others = λ d r ne. refl;
        grows = λ r r_in. longer [] (λ off. sym donate_told ∙ off) refl (sym (nothing_more (sources_of clones cluster r s).entries)) (λ ended. refl);
        own = recipient_ends setup s (course_of cluster.control) (is_true_at cluster.control.reported s) (slice_index_or cluster.control.clashes s None)
            (shard_in cluster s).donor next.donor (sources_of clones cluster s) (links_of cluster s) (lanes_of cluster s) (keeps.recipients s s_in)
            decided donate_told released_now.done
            (subst (λ p. IsReported setup p (is_true_at cluster.control.reported s) (slice_index_or cluster.control.clashes s None) next.donor (sources_of clones cluster s)
            (map close (links_of cluster s)) (map lane.emptied (lanes_of cluster s))) (sym aborting) tt);
        contents = subst (λ p. HoldsPlace setup p next (map lane.emptied (lanes_of cluster s)) state.bag s) (sym aborting)
            (λ id. prunes_unseen.now (shard_in cluster s).shard.versions stamp.time id
            ∙ subst (λ p. HoldsPlace setup p (shard_in cluster s) (lanes_of cluster s) state.bag s) aborting (keeps.contents s s_in) id);
        elsewhere = λ d ne id. refl;
      })

  pub release_keeps : Keeps setup state clones (tell.change stamp cluster s)
  release_keeps =
      subst (λ p. Keeps setup state clones (tell.told_if stamp s (message_in p cluster.control.fetch_time) cluster)) (sym aborting) all_keeps
