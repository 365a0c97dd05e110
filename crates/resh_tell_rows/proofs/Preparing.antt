-- A shard is told to prepare.
use Rattle.std.proofs.Common.{◌≡◌, ◌≢◌, ◌≤◌, ◌<◌, ◌⊎◌, inl, inr, ℕ, Bool, true, false, cond, not, ◌&&◌, nat_lt, List, [], ◌∷◌, length, slice_index_or, slice_set, Option, Some, None, refl, sym, ap, subst, ◌∙◌, arith, rules}
use Rattle.std.proofs.lemmas.List.{length-set}
use Rattle.resh_cells.specs.Cells.{lanes_of, links_of, on_control, shard_in, with_shard}
use Rattle.resh_cells.specs.Clocks.{clock_of}
use Rattle.resh_cells.specs.declared.cell.Cell.TheVariants as cell
use Rattle.resh_cells.specs.declared.cluster.Cluster.{Cluster}
use Rattle.resh_cells.specs.declared.cluster.LinkCell.{LinkCell}
use Rattle.resh_cells.specs.declared.cluster.ShardCell.{ShardCell}
use Rattle.resh_coord.specs.Control.{is_true_at, message_in, with_told}
use Rattle.resh_coord.specs.declared.phase.Phase.TheVariants as phase
use Rattle.resh_donor.specs.States as donor
use Rattle.resh_donor.specs.declared.phase.DonorPhase.TheVariants.{PreparingToDonate, Unused}
use Rattle.resh_events.specs.rows.Clone.{donates}
use Rattle.resh_events.specs.rows.Tell as tell
use Rattle.resh_events.specs.rows.Tell.{on_donor}
use Rattle.resh_fetcher.specs.Laws.{StandsOn}
use Rattle.resh_lane.specs.Lanes.{LaneOf}
use Rattle.resh_model.specs.Orders.{State}
use Rattle.resh_progress.specs.Kinds.{ToBlock, ToDonate, ToInstall, ToPrepare}
use Rattle.resh_progress.specs.Tellings.{has}
use Rattle.resh_progress.specs.declared.message.Message.TheVariants.{Prepare}
use Rattle.resh_setup.specs.declared.setup.Setup.{Setup}
use Rattle.resh_shard.specs.Shards.{prepared}
use Rattle.resh_stamp.specs.declared.stamp.Stamp.{Stamp}
use Rattle.resh_story.proofs.Keeping.{keeps_naming, keeps_story}
use Rattle.resh_invariant.specs.Courses.{IsDonorIn, IsGoing, course_of, is_blocking, is_over, is_unused, which_by}
use Rattle.resh_invariant.specs.Donors.{IsDonorKept}
use Rattle.resh_invariant.specs.Frames.{with_all}
use Rattle.resh_invariant.specs.Keeping.{HoldsPlace, Keeps}
use Rattle.resh_invariant.specs.Sources.{Clones, source_by, sources_of}
use Rattle.resh_invariant.proofs.Framing.{shards_keep, stays}
use Rattle.resh_invariant.proofs.Ones.{never}
use Rattle.resh_control_rows.proofs.Reporting.{same_clocks}
use Rattle.resh_tell_rows.proofs.Marking.{marked, others_marks, tests}
use Rattle.resh_tell_rows.proofs.Owning.{recipient_owned, same_set}

module _ (stands : StandsOn) (setup : Setup) (state : State) (clones : Clones) (cluster : Cluster) (keeps : Keeps setup state clones cluster)
    (s : ℕ) (preparing : cluster.control.phase ≡ phase.PreparingToDonate) (is : tell.may cluster s ≡ true)
    (past : clock_of cluster.clocks (cell.Shard s) ≤ clock_of cluster.clocks cell.Coordinator) where
  s_in : s < length setup.shards
  s_in = (tests setup state clones cluster keeps s is).0

  unused : IsGoing Unused (shard_in cluster s).donor
  unused =
      subst (λ t. IsDonorIn phase.PreparingToDonate cluster.control.decision t (shard_in cluster s).donor) (tests setup state clones cluster keeps s is).1
      (subst (λ p. IsDonorIn p cluster.control.decision (is_true_at cluster.control.told s) (shard_in cluster s).donor) preparing (keeps.donors s s_in).donor)

  going : IsGoing PreparingToDonate (donor.after (shard_in cluster s).donor ToPrepare)
  going = ap (λ x. donor.after x ToPrepare) unused

  abbrev next : ShardCell
  next = with_shard prepared (on_donor Prepare (shard_in cluster s))

  -- what was told, before and now
  was_told : (kind : _) → has (shard_in cluster s).donor.told kind ≡ has (donor.told_until Unused) kind
  was_told kind = ap (λ (x : donor.State). has x.told kind) unused

  now_told : (kind : _) → has next.donor.told kind ≡ has (donor.told_until PreparingToDonate) kind
  now_told kind = ap (λ (x : donor.State). has x.told kind) going

  donor_kept : IsDonorKept setup s (course_of cluster.control) (is_true_at (slice_set cluster.control.told s true) s) (clock_of cluster.clocks cell.Coordinator)
      (clones s) (clock_of cluster.clocks (cell.Shard s)) next
  donor_kept =
      let kept = keeps.donors s s_in in
      record {
        of = record { number = kept.of.number; old_map = kept.of.old_map; new_map = kept.of.new_map; limit = kept.of.limit };
        donor =
            subst (λ p. IsDonorIn p cluster.control.decision (is_true_at (slice_set cluster.control.told s true) s) next.donor) (sym preparing)
            (subst (λ t. IsDonorIn phase.PreparingToDonate cluster.control.decision t next.donor) (sym (marked setup state clones cluster keeps s is)) going);
        serves = record {
          names = sym (now_told ToPrepare);
          blocked = kept.serves.blocked ∙ ap (λ (x : donor.State). is_blocking x.phase) unused ∙ sym (ap (λ (x : donor.State). is_blocking x.phase) going);
          which = kept.serves.which ∙ ap which_by (was_told ToInstall ∙ sym (now_told ToInstall));
        };
        story = keeps_story.prepares (clock_of cluster.clocks (cell.Shard s)) (shard_in cluster s).shard kept.story;
        log = kept.log;
        stored = λ off. kept.stored (was_told ToInstall);
        prepared = λ on. (clock_of cluster.clocks (cell.Shard s), past, keeps_naming.starts (clock_of cluster.clocks (cell.Shard s)) (shard_in cluster s).shard kept.story);
        named = kept.named;
        past = λ on. never (sym on ∙ now_told ToDonate);
        floor = λ more. kept.floor (ap (λ (x : donor.State). is_over x.phase) unused);
        cloned = kept.cloned;
        unsealed = λ off. kept.unsealed (was_told ToBlock);
        whole = λ more. kept.whole (ap (λ (x : donor.State). is_over x.phase) unused);
        sealed = λ on. never (sym on ∙ now_told ToBlock);
        items = kept.items;
      }

  pub all_keeps : Keeps setup state clones (with_all s (slice_set cluster.control.told s true) next (links_of cluster s) (lanes_of cluster s) cluster.clocks cluster)
  all_keeps =
      shards_keep stands setup state clones clones cluster s (slice_set cluster.control.told s true) next (links_of cluster s) (lanes_of cluster s) cluster.clocks state.bag keeps (same_clocks cluster) s_in
      (record {
        placed = keeps.decided.placed;
        whole = keeps.decided.whole;
        count = length-set cluster.control.told s true ∙ keeps.noted.told;
        marks = others_marks cluster.control.told s;
        donor = donor_kept;
        others = λ d r ne. refl;
        grows = λ r r_in. stays (sources_of clones cluster r s) (source_by cluster.control.fetch_time next (clones s r) r) (now_told ToDonate ∙ sym (was_told ToDonate)) refl refl;
        own = recipient_owned setup (shard_in cluster s).donor next.donor
            (record {
              donate = now_told ToDonate ∙ sym (was_told ToDonate);
              install = now_told ToInstall ∙ sym (was_told ToInstall);
              runs = ap (λ (x : donor.State). donates x.phase) going ∙ sym (ap (λ (x : donor.State). donates x.phase) unused);
              unused = ap (λ (x : donor.State). is_unused x.phase) going ∙ sym (ap (λ (x : donor.State). is_unused x.phase) unused);
            })
            s (course_of cluster.control) (is_true_at cluster.control.reported s) (slice_index_or cluster.control.clashes s None) (sources_of clones cluster s) (links_of cluster s) (lanes_of cluster s)
            (keeps.recipients s s_in);
        contents = subst (λ p. HoldsPlace setup p next (lanes_of cluster s) state.bag s) (sym preparing)
            (subst (λ p. HoldsPlace setup p (shard_in cluster s) (lanes_of cluster s) state.bag s) preparing (keeps.contents s s_in));
        elsewhere = λ d ne id. refl;
      })

  pub prepare_keeps : (stamp : Stamp) → Keeps setup state clones (tell.change stamp cluster s)
  prepare_keeps stamp =
      subst (λ p. Keeps setup state clones (tell.told_if stamp s (message_in p cluster.control.fetch_time) cluster)) (sym preparing)
      (subst (λ (ks : List (List LinkCell)). Keeps setup state clones (record cluster { control = with_told s cluster.control; shards = slice_set cluster.shards s next; links = ks }))
      (same_set cluster.links s [])
      (subst (λ (ls : List (List LaneOf)). Keeps setup state clones
      (record cluster { control = with_told s cluster.control; shards = slice_set cluster.shards s next; links = slice_set cluster.links s (links_of cluster s); lanes = ls }))
      (same_set cluster.lanes s []) all_keeps))
