-- A shard is told to block its writes: a final entry is logged for each recipient.
use Rattle.std.proofs.Common.{◌≡◌, ◌≢◌, ◌≤◌, ◌<◌, ◌^◌, ◌==◌, ◌&&◌, ◌++◌, ℕ, nat_lt, nat_le, Bool, true, false, List, [], ◌∷◌, length, slice_index_or, slice_set, None, refl, sym, ap, subst, ◌∙◌, arith, rules}
use Rattle.std.proofs.lemmas.List.{length-set}
use Rattle.std.specs.List.{AllByRecursion}
use Rattle.resh_cells.specs.Cells.{lanes_of, links_of, shard_in, with_shard}
use Rattle.resh_cells.specs.Clocks.{clock_of}
use Rattle.resh_cells.specs.declared.cell.Cell.TheVariants as cell
use Rattle.resh_cells.specs.declared.cluster.Clocks.{Clocks}
use Rattle.resh_cells.specs.declared.cluster.Cluster.{Cluster}
use Rattle.resh_cells.specs.declared.cluster.LinkCell.{LinkCell}
use Rattle.resh_cells.specs.declared.cluster.ShardCell.{ShardCell}
use Rattle.resh_chunks.specs.Chunks.{owner_of}
use Rattle.resh_coord.specs.Control.{is_true_at, message_in, with_told}
use Rattle.resh_coord.specs.declared.phase.Phase.TheVariants as phase
use Rattle.resh_donor.specs.States as donor
use Rattle.resh_donor.specs.declared.phase.DonorPhase.TheVariants.{BlockingWrites, Donating}
use Rattle.resh_events.specs.rows.Clone.{donates}
use Rattle.resh_events.specs.rows.Tell as tell
use Rattle.resh_events.specs.rows.Tell.{on_donor}
use Rattle.resh_feed.specs.Items.{has_final, up_to_final}
use Rattle.resh_fetcher.specs.Laws.{StandsOn}
use Rattle.resh_lane.specs.Lanes.{LaneOf}
use Rattle.resh_model.specs.Orders.{State}
use Rattle.resh_oplog.specs.Logs.{is_for}
use Rattle.resh_oplog.specs.declared.entry.Entry.{Entry}
use Rattle.resh_oplog.specs.declared.entry.What.TheVariants.{Insert}
use Rattle.resh_progress.specs.Kinds.{ToBlock, ToDonate, ToInstall, ToPrepare}
use Rattle.resh_progress.specs.Tellings.{has}
use Rattle.resh_progress.specs.declared.message.Message.TheVariants.{Block}
use Rattle.resh_setup.specs.Validity.{IsValid}
use Rattle.resh_setup.specs.declared.setup.Setup.{Setup}
use Rattle.resh_shard.specs.Shards.{blocked_at, final_entries}
use Rattle.resh_stamp.specs.declared.stamp.Stamp.{Stamp}
use Rattle.resh_story.specs.Laws.{final_to}
use Rattle.resh_story.specs.Stories.{HasStory, clones_of, entries_for}
use Rattle.resh_story.proofs.Entries.{all_both, has_none, later_none, no_final}
use Rattle.resh_story.proofs.Feeding.{feeds_end, keeps_finals}
use Rattle.resh_story.proofs.Keeping.{keeps_naming, keeps_story}
use Rattle.resh_story.proofs.Logging.{keeps_log}
use Rattle.resh_versions.specs.Standing.{standing}
use Rattle.resh_invariant.specs.Courses.{IsDonorIn, IsGoing, course_of, is_blocking, is_over, is_unused, which_by}
use Rattle.resh_invariant.specs.Donors.{IsDonorKept}
use Rattle.resh_invariant.specs.Frames.{AreLater, Grows, longer, with_all}
use Rattle.resh_invariant.specs.Items.{IsItemOf}
use Rattle.resh_invariant.specs.Keeping.{HoldsPlace, Keeps}
use Rattle.resh_invariant.specs.Sources.{Clones, source_by, sources_of}
use Rattle.resh_invariant.proofs.Framing.{shards_keep}
use Rattle.resh_invariant.proofs.Ones.{both, never}
use Rattle.resh_tell_rows.proofs.Fed.{fed, filter_all, final_all, finals_are}
use Rattle.resh_tell_rows.proofs.Marking.{marked, others_marks, tests}
use Rattle.resh_tell_rows.proofs.Owning.{recipient_owned, same_set}

few_shards : (n : ℕ) (named : Bool) → (nat_lt 0 n && nat_le n 8 && named) ≡ true → n ≤ 2 ^ 32
few_shards n named is =
    let le : n ≤ 8 = within n (both (nat_lt 0 n) (nat_le n 8) (both (nat_lt 0 n && nat_le n 8) named is).0).1 in
    omega (arith, le)
  where
    within : (n : ℕ) → nat_le n 8 ≡ true → n ≤ 8
    within n e = search (arith, rules)

module _ (stands : StandsOn) (setup : Setup) (valid : IsValid setup) (state : State) (clones : Clones) (cluster : Cluster) (keeps : Keeps setup state clones cluster)
    (s : ℕ) (blocking : cluster.control.phase ≡ phase.BlockingWrites) (is : tell.may cluster s ≡ true) (stamp : Stamp) (clocks : Clocks) (rise : AreLater cluster.clocks clocks)
    (control : clock_of cluster.clocks cell.Coordinator < stamp.time) (own : clock_of cluster.clocks (cell.Shard s) < stamp.time)
    (set : clock_of clocks (cell.Shard s) ≡ stamp.time) (node : stamp.node < 2 ^ 32) where
  s_in : s < length setup.shards
  s_in = (tests setup state clones cluster keeps s is).0

  donating : IsGoing Donating (shard_in cluster s).donor
  donating =
      subst (λ t. IsDonorIn phase.BlockingWrites cluster.control.decision t (shard_in cluster s).donor) (tests setup state clones cluster keeps s is).1
      (subst (λ p. IsDonorIn p cluster.control.decision (is_true_at cluster.control.told s) (shard_in cluster s).donor) blocking (keeps.donors s s_in).donor)

  blocked : IsGoing BlockingWrites (donor.after (shard_in cluster s).donor ToBlock)
  blocked = ap (λ x. donor.after x ToBlock) donating

  abbrev next : ShardCell
  next = with_shard (blocked_at stamp) (on_donor Block (shard_in cluster s))

  -- what was told, before and now
  was_told : (kind : _) → has (shard_in cluster s).donor.told kind ≡ has (donor.told_until Donating) kind
  was_told kind = ap (λ (x : donor.State). has x.told kind) donating

  now_told : (kind : _) → has next.donor.told kind ≡ has (donor.told_until BlockingWrites) kind
  now_told kind = ap (λ (x : donor.State). has x.told kind) blocked

  later : cluster.control.fetch_time < stamp.time
  later = let fetch = keeps.decided.fetch in omega (arith, fetch, control)

  more : is_over (shard_in cluster s).donor.phase ≡ false
  more = ap (λ (x : donor.State). is_over x.phase) donating

  unsealed : has_final (shard_in cluster s).shard.log.entries ≡ false
  unsealed = (keeps.donors s s_in).unsealed (was_told ToBlock)

  recipients : (shard_in cluster s).shard.new_map.shards ≡ length setup.shards
  recipients = ap (λ m. m.shards) (keeps.donors s s_in).of.new_map ∙ valid.new.count

  items_now : AllByRecursion (λ (e : Entry). IsItemOf setup.old_map s e.what) (blocked_at stamp (shard_in cluster s).shard).log.entries
  items_now =
      all_both (λ (e : Entry). IsItemOf setup.old_map s e.what) (shard_in cluster s).shard.log.entries (final_entries (shard_in cluster s).shard stamp)
      ((keeps.donors s s_in).stored (was_told ToInstall)).entries
      (finals_are setup.old_map s (shard_in cluster s).shard.log.donor stamp 0 (shard_in cluster s).shard.new_map.shards)

  donor_kept : IsDonorKept setup s (course_of cluster.control) (is_true_at (slice_set cluster.control.told s true) s) (clock_of clocks cell.Coordinator)
      (clones s) (clock_of clocks (cell.Shard s)) next
  donor_kept =
      let kept = keeps.donors s s_in in
      record {
        of = record { number = kept.of.number; old_map = kept.of.old_map; new_map = kept.of.new_map; limit = kept.of.limit };
        donor =
            subst (λ p. IsDonorIn p cluster.control.decision (is_true_at (slice_set cluster.control.told s true) s) next.donor) (sym blocking)
            (subst (λ t. IsDonorIn phase.BlockingWrites cluster.control.decision t next.donor) (sym (marked setup state clones cluster keeps s is)) blocked);
        serves = record {
          names = kept.serves.names ∙ was_told ToPrepare ∙ sym (now_told ToPrepare);
          blocked = sym (ap (λ (x : donor.State). is_blocking x.phase) blocked);
          which = kept.serves.which ∙ ap which_by (was_told ToInstall ∙ sym (now_told ToInstall));
        };
        story = subst (λ t. HasStory t next.shard) (sym set) (keeps_story.blocks (clock_of cluster.clocks (cell.Shard s)) stamp (shard_in cluster s).shard kept.story (omega (arith, own)));
        log = keeps_log.blocks (clock_of cluster.clocks (cell.Shard s)) stamp (shard_in cluster s).shard kept.log kept.story own node
            (subst (λ n. n ≤ 2 ^ 32) (sym recipients) (few_shards (length setup.shards) _ valid.shards));
        stored = λ off. record { documents = (kept.stored (was_told ToInstall)).documents; entries = items_now };
        prepared = λ on.
            let was = kept.prepared (was_told ToPrepare) in
            let since = was.1 in
            let le = rise.rise cell.Coordinator in
            (was.0, omega (arith, since, le), keeps_naming.blocks was.0 stamp (shard_in cluster s).shard was.2);
        named = λ none late. keeps_naming.blocks cluster.control.fetch_time stamp (shard_in cluster s).shard (kept.named none late);
        past = λ on. omega (arith, later, set);
        floor = λ going. kept.floor more;
        cloned = kept.cloned;
        unsealed = λ off. never (sym (now_told ToBlock) ∙ off);
        whole = λ going r. keeps_finals.blocks stamp (shard_in cluster s).shard cluster.control.fetch_time r unsealed;
        sealed = λ on r r_in. keeps_finals.seals stamp (shard_in cluster s).shard cluster.control.fetch_time r later (subst (λ n. r < n) (sym recipients) r_in);
        items = λ r r_in.
            fed setup.old_map s (clones s r) (up_to_final (entries_for next.shard cluster.control.fetch_time r))
            (subst (λ ds. AllByRecursion (λ d. IsItemOf setup.old_map s (Insert d)) ds) (sym (kept.cloned (kept.floor more) r r_in))
            (filter_all (λ d. IsItemOf setup.old_map s (Insert d)) (λ d. owner_of (shard_in cluster s).shard.new_map d == r) (standing (shard_in cluster s).shard.versions cluster.control.fetch_time)
            ((kept.stored (was_told ToInstall)).documents cluster.control.fetch_time)))
            (final_all (λ (e : Entry). IsItemOf setup.old_map s e.what) (entries_for next.shard cluster.control.fetch_time r)
            (filter_all (λ (e : Entry). IsItemOf setup.old_map s e.what) (λ (e : Entry). nat_lt cluster.control.fetch_time e.stamp.time && is_for r e.to) next.shard.log.entries items_now));
      }

  -- it tells each recipient one entry more, and told no final one
  tells_more : (r : ℕ) → Grows (sources_of clones cluster r s) (source_by cluster.control.fetch_time next (clones s r) r)
  tells_more r =
      let kept = keeps.donors s s_in in
      longer (final_to r stamp (shard_in cluster s).shard) (λ off. never (sym (now_told ToDonate) ∙ off)) refl
      (keeps_finals.blocks stamp (shard_in cluster s).shard cluster.control.fetch_time r unsealed
      ∙ feeds_end.logged stamp (shard_in cluster s).shard cluster.control.fetch_time r later
      ∙ ap (λ es. es ++ final_to r stamp (shard_in cluster s).shard) (sym (kept.whole more r)))
      (λ ended. never (sym ended ∙ ap has_final (kept.whole more r)
      ∙ has_none (entries_for (shard_in cluster s).shard cluster.control.fetch_time r)
      (later_none cluster.control.fetch_time r (shard_in cluster s).shard.log.entries (no_final (shard_in cluster s).shard.log.entries unsealed))))

  pub all_keeps : Keeps setup state clones (with_all s (slice_set cluster.control.told s true) next (links_of cluster s) (lanes_of cluster s) clocks cluster)
  all_keeps =
      shards_keep stands setup state clones clones cluster s (slice_set cluster.control.told s true) next (links_of cluster s) (lanes_of cluster s) clocks state.bag keeps rise s_in
      (record {
        placed = keeps.decided.placed;
        whole = keeps.decided.whole;
        count = length-set cluster.control.told s true ∙ keeps.noted.told;
        marks = others_marks cluster.control.told s;
        donor = donor_kept;
        others = λ d r ne. refl;
        grows = λ r r_in. tells_more r;
        own = recipient_owned setup (shard_in cluster s).donor next.donor
            (record {
              donate = now_told ToDonate ∙ sym (was_told ToDonate);
              install = now_told ToInstall ∙ sym (was_told ToInstall);
              runs = ap (λ (x : donor.State). donates x.phase) blocked ∙ sym (ap (λ (x : donor.State). donates x.phase) donating);
              unused = ap (λ (x : donor.State). is_unused x.phase) blocked ∙ sym (ap (λ (x : donor.State). is_unused x.phase) donating);
            })
            s (course_of cluster.control) (is_true_at cluster.control.reported s) (slice_index_or cluster.control.clashes s None) (sources_of clones cluster s) (links_of cluster s) (lanes_of cluster s)
            (keeps.recipients s s_in);
        contents = subst (λ p. HoldsPlace setup p next (lanes_of cluster s) state.bag s) (sym blocking)
            (subst (λ p. HoldsPlace setup p (shard_in cluster s) (lanes_of cluster s) state.bag s) blocking (keeps.contents s s_in));
        elsewhere = λ d ne id. refl;
      })

  pub block_keeps : Keeps setup state clones (record (tell.change stamp cluster s) { clocks = clocks })
  block_keeps =
      subst (λ p. Keeps setup state clones (record (tell.told_if stamp s (message_in p cluster.control.fetch_time) cluster) { clocks = clocks })) (sym blocking)
      (subst (λ (ks : List (List LinkCell)). Keeps setup state clones (record cluster { control = with_told s cluster.control; shards = slice_set cluster.shards s next; links = ks; clocks = clocks }))
      (same_set cluster.links s [])
      (subst (λ (ls : List (List LaneOf)). Keeps setup state clones
      (record cluster { control = with_told s cluster.control; shards = slice_set cluster.shards s next; links = slice_set cluster.links s (links_of cluster s); lanes = ls; clocks = clocks }))
      (same_set cluster.lanes s []) all_keeps))
