-- The fetch time is set: the coordinator leaves the phase of preparing.
use Rattle.std.proofs.Common.{◌≡◌, ◌≤◌, ◌<◌, ◌==◌, ◌&&◌, nat_lt, ℕ, zero, suc, Bool, true, false, cond, List, [], ◌∷◌, length, filter, map, replicate, slice_index_or, Option, None, refl, sym, ap, subst, ◌∙◌, arith}
use Rattle.std.proofs.lemmas.List.{length-replicate}
use Rattle.std.specs.List.{AllByRecursion}
use Rattle.resh_value.specs.declared.value.Value.{Value}
use Rattle.resh_cells.specs.Cells.{lanes_of, links_of, no_lane, no_link, shard_in}
use Rattle.resh_cells.specs.Clocks.{clock_of}
use Rattle.resh_cells.specs.declared.cell.Cell.TheVariants as cell
use Rattle.resh_cells.specs.declared.cluster.Cluster.{Cluster}
use Rattle.resh_cells.specs.declared.cluster.LinkCell.{LinkCell}
use Rattle.resh_chunks.specs.Chunks.{Chunks, owner_of}
use Rattle.resh_coord.specs.Control.{Control, all_true, is_true_at, left, may_advance, may_leave, with_phase}
use Rattle.resh_coord.specs.declared.phase.Phase.TheVariants as phase
use Rattle.resh_donor.specs.States as donor
use Rattle.resh_donor.specs.declared.phase.DonorPhase.TheVariants.{PreparingToDonate}
use Rattle.resh_events.specs.Opening.{opening_lane, opening_link}
use Rattle.resh_events.specs.rows.Advance as advance
use Rattle.resh_events.specs.rows.Clone.{donates}
use Rattle.resh_feed.specs.Feeds.{items_of, whats}
use Rattle.resh_feed.specs.Items.{Document, up_to_final, is_final}
use Rattle.resh_lane.specs.Lanes.{LaneOf, number_of}
use Rattle.resh_lane.proofs.Fitting.{zeros}
use Rattle.resh_model.specs.Orders.{State}
use Rattle.resh_oplog.specs.Logs.{is_for}
use Rattle.resh_oplog.specs.declared.entry.Entry.{Entry}
use Rattle.resh_oplog.specs.declared.entry.What.TheVariants.{Insert}
use Rattle.resh_oplog.specs.declared.piece.Piece.{Piece}
use Rattle.resh_place.proofs.Cutting.{cuts_stand}
use Rattle.resh_progress.specs.Kinds.{ToBlock, ToDonate, ToInstall, ToPrepare}
use Rattle.resh_progress.specs.Tellings.{has}
use Rattle.resh_setup.specs.declared.setup.Setup.{Setup}
use Rattle.resh_shard.specs.Writes.{shard_id}
use Rattle.resh_stamp.specs.declared.stamp.Stamp.{Stamp}
use Rattle.resh_story.specs.Stories.{clones_of, entries_for}
use Rattle.resh_story.proofs.Feeding.{keeps_finals}
use Rattle.resh_story.proofs.Keeping.{keeps_naming}
use Rattle.resh_versions.specs.Standing.{standing}
use Rattle.resh_invariant.specs.Courses.{Course, IsDonorIn, IsGoing, IsStage, course_of, is_over, is_unused}
use Rattle.resh_invariant.specs.Donors.{IsDonorKept}
use Rattle.resh_invariant.specs.Items.{AreItemsOf, IsItemOf}
use Rattle.resh_invariant.specs.Keeping.{HoldsPlace, Keeps}
use Rattle.resh_invariant.specs.Recipients.{IsLaneKept, IsLinkKept}
use Rattle.resh_invariant.specs.Sources.{Clones, Source, feed_by, source_by, sources_of, told_clones}
use Rattle.resh_invariant.proofs.Ones.{both, never}
use Rattle.resh_control_rows.proofs.Marks.{each_of, none_marked}

filter_all : {X : Type 0} (P : X → Type 0) (p : X → Bool) (xs : List X) → AllByRecursion P xs → AllByRecursion P (filter p xs)
filter_all P p [] all = tt
filter_all P p (x ∷ xs) all = by (p x) (filter_all P p xs all.1)
  where
    by : (t : Bool) → AllByRecursion P (filter p xs) → AllByRecursion P (cond t (x ∷ filter p xs) (filter p xs))
    by true rest = (all.0, rest)
    by false rest = rest

final_all : (P : Entry → Type 0) (es : List Entry) → AllByRecursion P es → AllByRecursion P (up_to_final es)
final_all P [] all = tt
final_all P (e ∷ es) all = (all.0, by (is_final e.what) (final_all P es all.1))
  where
    by : (t : Bool) → AllByRecursion P (up_to_final es) → AllByRecursion P (cond t [] (up_to_final es))
    by true rest = tt
    by false rest = rest

-- documents and entries that are items make a feed of items
fed : (old : Chunks) (s : ℕ) (ds : List Document) (es : List Entry) → AllByRecursion (λ d. IsItemOf old s (Insert d)) ds
    → AllByRecursion (λ (e : Entry). IsItemOf old s e.what) es → AreItemsOf old s (whats (items_of ds es))
fed old s [] [] docs all = tt
fed old s [] (e ∷ es) docs all = (all.0, fed old s [] es tt all.1)
fed old s (d ∷ ds) es docs all = (docs.0, fed old s ds es docs.1 all)

no_pieces : (n : ℕ) → AllByRecursion (λ (pieces : List Piece). pieces ≡ []) (replicate n [])
no_pieces zero = tt
no_pieces (suc n) = (refl, no_pieces n)

-- a link that nobody told anything
fresh_link : (setup : Setup) (r d : ℕ) (course : Course) (own : donor.State) (source : Source) → has own.told ToDonate ≡ false
    → IsLinkKept setup r d course own source (opening_link setup r d)
fresh_link setup r d course own source off = record {
  owned = record { recipient = refl; donor = refl; lanes = refl; batch = refl };
  cuts = length-replicate setup.lanes [];
  started = sym off;
  opened = λ e. never (sym e);
  reads = λ on. never (sym on ∙ off);
  sent = cuts_stand.begun setup.lanes setup.lanes (shard_id d) (feed_by source);
  untold = λ _. record { place = refl; out = refl; buffer = refl; read_out = refl; kept_out = refl; sent = no_pieces setup.lanes };
  unused = λ _ _. refl;
}

module _ (setup : Setup) (state : State) (clones : Clones) (cluster : Cluster) (keeps : Keeps setup state clones cluster)
    (preparing : cluster.control.phase ≡ phase.PreparingToDonate) (is : may_advance cluster.control ≡ true)
    (time : ℕ) (set : clock_of cluster.clocks cell.Coordinator ≡ time) where
  stage : IsStage phase.PreparingToDonate cluster.control.decision state.fate
  stage = subst (λ p. IsStage p cluster.control.decision state.fate) preparing keeps.decided.stage

  going : (s : ℕ) → s < length setup.shards → IsGoing PreparingToDonate (shard_in cluster s).donor
  going s lt =
      subst (λ t. IsDonorIn phase.PreparingToDonate cluster.control.decision t (shard_in cluster s).donor)
      (each_of (λ mark. mark) cluster.control.told false (subst (λ p. may_leave p cluster.control.told cluster.control.reported ≡ true) preparing is) s (subst (λ n. s < n) (sym keeps.noted.told) lt))
      (subst (λ p. IsDonorIn p cluster.control.decision (is_true_at cluster.control.told s) (shard_in cluster s).donor) preparing (keeps.donors s lt).donor)

  abbrev control : Control
  control = record (with_phase phase.Cloning cluster.control) { fetch_time = time }

  abbrev after : Cluster
  after = record cluster { control = record (with_phase phase.Cloning cluster.control) { fetch_time = time } }

  donor_kept : (s : ℕ) → s < length setup.shards
      → IsDonorKept setup s (course_of control) (is_true_at control.told s) (clock_of cluster.clocks cell.Coordinator)
      (told_clones after s) (clock_of cluster.clocks (cell.Shard s)) (shard_in cluster s)
  donor_kept s lt =
      let kept = keeps.donors s lt in
      let off : IsGoing PreparingToDonate (shard_in cluster s).donor = going s lt in
      record {
        of = kept.of;
        donor = subst (λ t. IsDonorIn phase.Cloning cluster.control.decision t (shard_in cluster s).donor) (sym (none_marked (length cluster.control.told) s)) (going s lt);
        serves = kept.serves;
        story = kept.story;
        log = kept.log;
        stored = kept.stored;
        prepared = kept.prepared;
        named = λ none late.
            let since = kept.prepared (ap (λ (x : donor.State). has x.told ToPrepare) off) in
            keeps_naming.stays since.0 time (shard_in cluster s).shard.log.entries since.2 (subst (λ t. since.0 ≤ t) set since.1);
        past = λ on. never (sym on ∙ ap (λ (x : donor.State). has x.told ToDonate) off);
        floor = λ more.
            let low = kept.floor more in
            let fetch = keeps.decided.fetch in
            omega (arith, low, fetch, set);
        cloned = λ low r r_in. refl;
        unsealed = kept.unsealed;
        whole = λ more r. keeps_finals.whole (shard_in cluster s).shard time r (kept.unsealed (ap (λ (x : donor.State). has x.told ToBlock) off));
        sealed = λ on. never (sym on ∙ ap (λ (x : donor.State). has x.told ToBlock) off);
        items = λ r r_in.
            let stored = kept.stored (ap (λ (x : donor.State). has x.told ToInstall) off) in
            fed setup.old_map s (clones_of (shard_in cluster s).shard time r) (up_to_final (entries_for (shard_in cluster s).shard time r))
            (filter_all (λ d. IsItemOf setup.old_map s (Insert d)) (λ d. owner_of (shard_in cluster s).shard.new_map d == r) (standing (shard_in cluster s).shard.versions time) (stored.documents time))
            (final_all (λ (e : Entry). IsItemOf setup.old_map s e.what) (entries_for (shard_in cluster s).shard time r)
            (filter_all (λ (e : Entry). IsItemOf setup.old_map s e.what) (λ (e : Entry). nat_lt time e.stamp.time && is_for r e.to) (shard_in cluster s).shard.log.entries stored.entries));
      }

  lane_kept : (r l : ℕ) (lane : LaneOf) → r < length setup.shards → IsLaneKept setup l (shard_in cluster r).donor (sources_of clones cluster r) lane
      → IsLaneKept setup l (shard_in cluster r).donor (sources_of (told_clones after) after r) lane
  lane_kept r l lane r_in kept = record {
    sound = kept.sound;
    pool = kept.pool;
    chunks = kept.chunks;
    stashes = kept.stashes;
    started = kept.started;
    fits = λ on. never (sym on ∙ ap (λ (x : donor.State). donates x.phase) (going r r_in));
    untold = λ d d_in off. ap (λ (x : LaneOf). number_of x.high d) (kept.unused (ap (λ (x : donor.State). is_unused x.phase) (going r r_in))) ∙ zeros (length setup.shards) d;
    unused = kept.unused;
  }

  pub fetch_time_keeps : Keeps setup state (told_clones after) after
  fetch_time_keeps = record {
    shard_count = keeps.shard_count;
    clock_count = keeps.clock_count;
    lane_rows = keeps.lane_rows;
    link_rows = keeps.link_rows;
    client_count = keeps.client_count;
    answered = keeps.answered;
    noted = record {
      told = length-replicate (length cluster.control.told) false ∙ keeps.noted.told;
      reported = length-replicate (length cluster.control.reported) false ∙ keeps.noted.reported;
      clashes = keeps.noted.clashes;
    };
    decided = record {
      stage = stage;
      map = keeps.decided.map;
      placed = keeps.decided.placed;
      whole = keeps.decided.whole;
      fetch = omega (arith, set);
    };
    clients = keeps.clients;
    donors = donor_kept;
    recipients = λ r r_in. let kept = keeps.recipients r r_in in record {
      link_count = kept.link_count;
      lane_count = kept.lane_count;
      each_link = λ d d_in.
          let off = ap (λ (x : donor.State). has x.told ToDonate) (going r r_in) in
          subst (λ x. IsLinkKept setup r d (course_of control) (shard_in cluster r).donor (sources_of (told_clones after) after r d) x) (sym ((kept.each_link d d_in).unused stage.0 off))
          (fresh_link setup r d (course_of control) (shard_in cluster r).donor (sources_of (told_clones after) after r d) off);
      each_lane = λ l l_in. lane_kept r l (slice_index_or (lanes_of cluster r) l no_lane) r_in (kept.each_lane l l_in);
      behind = kept.behind;
      reports = tt;
    };
    contents = λ s lt. subst (λ p. HoldsPlace setup p (shard_in cluster s) (lanes_of cluster s) state.bag s) preparing (keeps.contents s lt);
  }

  pub advance_is : (stamp : Stamp) → stamp.time ≡ time → advance.change stamp cluster ≡ after
  advance_is stamp same =
      ap (λ t. record cluster { control = cond t (left cluster.control.phase stamp.time cluster.control) cluster.control }) is
      ∙ ap (λ p. record cluster { control = left p stamp.time cluster.control }) preparing
      ∙ ap (λ t. record cluster { control = record (with_phase phase.Cloning cluster.control) { fetch_time = t } }) same

module _ (setup : Setup) (state : State) (clones : Clones) (cluster : Cluster) (keeps : Keeps setup state clones cluster)
    (preparing : cluster.control.phase ≡ phase.PreparingToDonate) (is : may_advance cluster.control ≡ true) (stamp : Stamp)
    (set : clock_of cluster.clocks cell.Coordinator ≡ stamp.time) where
  pub preparing_keeps : Keeps setup state (told_clones (advance.change stamp cluster)) (advance.change stamp cluster)
  preparing_keeps =
      subst (λ (c : Cluster). Keeps setup state (told_clones c) c) (sym (advance_is setup state clones cluster keeps preparing is stamp.time set stamp refl))
      (fetch_time_keeps setup state clones cluster keeps preparing is stamp.time set)
