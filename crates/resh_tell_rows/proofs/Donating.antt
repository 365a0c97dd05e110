-- A shard is told to donate: its links and its lanes start.
use Rattle.std.proofs.Common.{◌≡◌, ◌≢◌, ◌≤◌, ◌<◌, ◌++◌, ℕ, max, zero, suc, Bool, true, false, List, [], ◌∷◌, length, map, replicate, slice_index_or, slice_set, Option, None, refl, sym, ap, subst, ◌∙◌, arith}
use Rattle.std.proofs.lemmas.List.{length-map, length-replicate, length-set}
use Rattle.std.specs.List.{AllByRecursion}
use Rattle.resh_value.specs.declared.value.Value.{Value}
use Rattle.resh_cells.specs.Cells.{lanes_of, links_of, no_lane, no_link, shard_in, with_link, with_shard}
use Rattle.resh_cells.specs.Clocks.{clock_of}
use Rattle.resh_cells.specs.declared.cell.Cell.TheVariants as cell
use Rattle.resh_cells.specs.declared.cluster.Cluster.{Cluster}
use Rattle.resh_cells.specs.declared.cluster.LinkCell.{LinkCell}
use Rattle.resh_cells.specs.declared.cluster.ShardCell.{ShardCell}
use Rattle.resh_coord.specs.Control.{is_true_at, message_in}
use Rattle.resh_coord.specs.declared.phase.Phase.TheVariants as phase
use Rattle.resh_donor.specs.States as donor
use Rattle.resh_donor.specs.declared.phase.DonorPhase.TheVariants.{Donating, PreparingToDonate}
use Rattle.resh_events.specs.Opening.{opening_lane, opening_link}
use Rattle.resh_events.specs.rows.Clone.{donates}
use Rattle.resh_events.specs.rows.Tell as tell
use Rattle.resh_events.specs.rows.Tell.{on_both}
use Rattle.resh_fetcher.specs.Laws.{StandsOn}
use Rattle.resh_fetcher.specs.Links as link
use Rattle.resh_lane.specs.Feeds.{FitsFeeds}
use Rattle.resh_lane.specs.Lanes as lane
use Rattle.resh_lane.specs.Lanes.{LaneOf, number_of}
use Rattle.resh_lane.proofs.Fitting.{goes_on_fitting}
use Rattle.resh_model.specs.Orders.{State}
use Rattle.resh_oplog.specs.declared.piece.Piece.{Piece}
use Rattle.resh_place.proofs.Cutting.{cuts_stand}
use Rattle.resh_progress.specs.Kinds.{ToBlock, ToDonate, ToInstall, ToPrepare}
use Rattle.resh_progress.specs.Tellings.{has}
use Rattle.resh_progress.specs.declared.message.Message.TheVariants.{Donate}
use Rattle.resh_setup.specs.declared.setup.Setup.{Setup}
use Rattle.resh_shard.specs.Shards.{pruned_to}
use Rattle.resh_shard.specs.Writes.{shard_id}
use Rattle.resh_stamp.specs.declared.stamp.Stamp.{Stamp}
use Rattle.resh_story.proofs.Feeding.{feeds_end}
use Rattle.resh_story.proofs.Keeping.{keeps_story}
use Rattle.resh_versions.proofs.Pruning.{prunes_unseen}
use Rattle.resh_invariant.specs.Courses.{Course, IsDonorIn, IsGoing, IsStage, course_of, is_blocking, is_over, is_unused, which_by}
use Rattle.resh_invariant.specs.Donors.{IsDonorKept}
use Rattle.resh_invariant.specs.Frames.{longer, with_all}
use Rattle.resh_invariant.specs.Keeping.{HoldsPlace, Keeps}
use Rattle.resh_invariant.specs.Recipients.{IsLaneKept, IsLinkKept, IsRecipientKept, IsReported}
use Rattle.resh_invariant.specs.Sources.{Clones, Source, feed_by, feeds_on, source_by, sources_of}
use Rattle.resh_invariant.proofs.Framing.{shards_keep}
use Rattle.resh_invariant.proofs.Ones.{never}
use Rattle.resh_control_rows.proofs.Reporting.{same_clocks}
use Rattle.resh_tell_rows.proofs.Marking.{map_in, marked, nothing_more, others_marks, tests}
use Rattle.resh_tell_rows.proofs.Pruned.{pruned_items}

no_pieces : (n : ℕ) → AllByRecursion (λ (pieces : List Piece). pieces ≡ []) (replicate n [])
no_pieces zero = tt
no_pieces (suc n) = (refl, no_pieces n)

-- a link that starts
abbrev start : ℕ → LinkCell → LinkCell
start time cell = with_link (λ l. link.started l time) cell

started_link : StandsOn → (setup : Setup) (r d : ℕ) (course : Course) (own : donor.State) (source : Source) → has own.told ToDonate ≡ true
    → IsLinkKept setup r d course own source (start course.fetch_time (opening_link setup r d))
started_link stands setup r d course own source on = record {
  owned = record { recipient = refl; donor = refl; lanes = refl; batch = refl };
  cuts = length-replicate setup.lanes [];
  started = sym on;
  opened = λ e. on;
  reads = λ e. record { time = refl; fits = stands.started setup.lanes setup.batch course.fetch_time source.documents source.entries (shard_id r) (shard_id d) };
  sent = cuts_stand.begun setup.lanes setup.lanes (shard_id d) (feed_by source);
  untold = λ off. record { place = refl; out = refl; buffer = refl; read_out = refl; kept_out = refl; sent = no_pieces setup.lanes };
  unused = λ none off. never (sym on ∙ off);
}

-- a lane that starts
started_lane : (setup : Setup) (l : ℕ) (before now : donor.State) (sources : ℕ → Source) (one : LaneOf) → is_unused before.phase ≡ true
    → donates now.phase ≡ true → is_unused now.phase ≡ false
    → IsLaneKept setup l before sources one → IsLaneKept setup l now sources (lane.with_started true one)
started_lane setup l before now sources one unused runs used kept = record {
  sound = record { ats = kept.sound.ats; highs = kept.sound.highs; reached = kept.sound.reached; small = kept.sound.small };
  pool = kept.pool;
  chunks = kept.chunks;
  stashes = kept.stashes;
  started = sym runs;
  fits = λ on. subst (λ x. FitsFeeds (lane.with_started true x) (feeds_on setup.lanes l sources)) (sym (kept.unused unused)) first;
  untold = kept.untold;
  unused = λ on. never (sym on ∙ used);
}
  where
    first : FitsFeeds (lane.with_started true (opening_lane setup)) (feeds_on setup.lanes l sources)
    first = record { each = (goes_on_fitting.begun setup.old_map (length setup.shards) (feeds_on setup.lanes l sources)).each }

-- a recipient whose links and lanes start
module _ (stands : StandsOn) (setup : Setup) (r : ℕ) (course : Course) (reported : Bool) (clash : Option Value) (before now : donor.State) (sources : ℕ → Source)
    (links : List LinkCell) (lanes : List LaneOf) (kept : IsRecipientKept setup r course reported clash before sources links lanes)
    (none : course.decision ≡ None) (off : has before.told ToDonate ≡ false) (unused : is_unused before.phase ≡ true)
    (on : has now.told ToDonate ≡ true) (runs : donates now.phase ≡ true) (used : is_unused now.phase ≡ false)
    (report : IsReported setup course.phase reported clash now sources (map (start course.fetch_time) links) (map (lane.with_started true) lanes)) where
  link_is : (d : ℕ) → d < length setup.shards → slice_index_or (map (start course.fetch_time) links) d no_link ≡ start course.fetch_time (slice_index_or links d no_link)
  link_is d lt = map_in (start course.fetch_time) links d no_link (subst (λ n. d < n) (sym kept.link_count) lt)

  lane_is : (l : ℕ) → l < setup.lanes → slice_index_or (map (lane.with_started true) lanes) l no_lane ≡ lane.with_started true (slice_index_or lanes l no_lane)
  lane_is l lt = map_in (lane.with_started true) lanes l no_lane (subst (λ n. l < n) (sym kept.lane_count) lt)

  pub recipient_starts : IsRecipientKept setup r course reported clash now sources (map (start course.fetch_time) links) (map (lane.with_started true) lanes)
  recipient_starts = record {
    link_count = length-map links (start course.fetch_time) ∙ kept.link_count;
    lane_count = length-map lanes (lane.with_started true) ∙ kept.lane_count;
    each_link = λ d lt.
        subst (λ x. IsLinkKept setup r d course now (sources d) x) (sym (link_is d lt ∙ ap (start course.fetch_time) ((kept.each_link d lt).unused none off)))
        (started_link stands setup r d course now (sources d) on);
    each_lane = λ l lt. subst (λ x. IsLaneKept setup l now sources x) (sym (lane_is l lt))
        (started_lane setup l before now sources (slice_index_or lanes l no_lane) unused runs used (kept.each_lane l lt));
    behind = λ d l d_in l_in.
        subst (λ (x : LinkCell). number_of x.link.kept.lanes l ≤ number_of (slice_index_or (map (lane.with_started true) lanes) l no_lane).at d) (sym (link_is d d_in))
        (subst (λ (x : LaneOf). number_of (slice_index_or links d no_link).link.kept.lanes l ≤ number_of x.at d) (sym (lane_is l l_in)) (kept.behind d l d_in l_in));
    reports = report;
  }

module _ (stands : StandsOn) (setup : Setup) (state : State) (clones : Clones) (cluster : Cluster) (keeps : Keeps setup state clones cluster)
    (s : ℕ) (cloning : cluster.control.phase ≡ phase.Cloning) (is : tell.may cluster s ≡ true)
    (past : clock_of cluster.clocks cell.Coordinator ≤ clock_of cluster.clocks (cell.Shard s)) where
  s_in : s < length setup.shards
  s_in = (tests setup state clones cluster keeps s is).0

  undecided : cluster.control.decision ≡ None
  undecided = (subst (λ p. IsStage p cluster.control.decision state.fate) cloning keeps.decided.stage).0

  preparing : IsGoing PreparingToDonate (shard_in cluster s).donor
  preparing =
      subst (λ t. IsDonorIn phase.Cloning cluster.control.decision t (shard_in cluster s).donor) (tests setup state clones cluster keeps s is).1
      (subst (λ p. IsDonorIn p cluster.control.decision (is_true_at cluster.control.told s) (shard_in cluster s).donor) cloning (keeps.donors s s_in).donor)

  donating : IsGoing Donating (donor.after (shard_in cluster s).donor ToDonate)
  donating = ap (λ x. donor.after x ToDonate) preparing

  abbrev next : ShardCell
  next = with_shard (pruned_to cluster.control.fetch_time) (on_both (Donate cluster.control.fetch_time) (shard_in cluster s))

  -- what was told, before and now
  was_told : (kind : _) → has (shard_in cluster s).donor.told kind ≡ has (donor.told_until PreparingToDonate) kind
  was_told kind = ap (λ (x : donor.State). has x.told kind) preparing

  now_told : (kind : _) → has next.donor.told kind ≡ has (donor.told_until Donating) kind
  now_told kind = ap (λ (x : donor.State). has x.told kind) donating

  later : cluster.control.fetch_time ≤ clock_of cluster.clocks (cell.Shard s)
  later = let fetch = keeps.decided.fetch in omega (arith, fetch, past)

  more : is_over (shard_in cluster s).donor.phase ≡ false
  more = ap (λ (x : donor.State). is_over x.phase) preparing

  donor_kept : IsDonorKept setup s (course_of cluster.control) (is_true_at (slice_set cluster.control.told s true) s) (clock_of cluster.clocks cell.Coordinator)
      (clones s) (clock_of cluster.clocks (cell.Shard s)) next
  donor_kept =
      let kept = keeps.donors s s_in in
      record {
        of = record { number = kept.of.number; old_map = kept.of.old_map; new_map = kept.of.new_map; limit = kept.of.limit };
        donor =
            subst (λ p. IsDonorIn p cluster.control.decision (is_true_at (slice_set cluster.control.told s true) s) next.donor) (sym cloning)
            (subst (λ t. IsDonorIn phase.Cloning cluster.control.decision t next.donor) (sym (marked setup state clones cluster keeps s is)) donating);
        serves = record {
          names = kept.serves.names ∙ was_told ToPrepare ∙ sym (now_told ToPrepare);
          blocked = kept.serves.blocked ∙ ap (λ (x : donor.State). is_blocking x.phase) preparing ∙ sym (ap (λ (x : donor.State). is_blocking x.phase) donating);
          which = kept.serves.which ∙ ap which_by (was_told ToInstall ∙ sym (now_told ToInstall));
        };
        story = keeps_story.prunes (clock_of cluster.clocks (cell.Shard s)) cluster.control.fetch_time (shard_in cluster s).shard kept.story later;
        log = kept.log;
        stored = λ off. pruned_items setup.old_map s cluster.control.fetch_time (shard_in cluster s).shard.versions (shard_in cluster s).shard.log.entries kept.story.dated.filed
            (kept.stored (was_told ToInstall));
        prepared = λ on. kept.prepared (was_told ToPrepare);
        named = kept.named;
        past = λ on. later;
        floor = λ going. most (shard_in cluster s).shard.versions.floor cluster.control.fetch_time (kept.floor more);
        cloned = λ low r r_in. kept.cloned (kept.floor more) r r_in
            ∙ sym (feeds_end.pruned cluster.control.fetch_time cluster.control.fetch_time r (shard_in cluster s).shard kept.story.dated.filed low);
        unsealed = λ off. kept.unsealed (was_told ToBlock);
        whole = λ going. kept.whole more;
        sealed = λ on. never (sym on ∙ now_told ToBlock);
        items = kept.items;
      }
    where
      most : (a b : ℕ) → a ≤ b → max a b ≤ b
      most a b le = omega (arith, le)

  pub all_keeps : Keeps setup state clones
      (with_all s (slice_set cluster.control.told s true) next (map (start cluster.control.fetch_time) (links_of cluster s)) (map (lane.with_started true) (lanes_of cluster s)) cluster.clocks cluster)
  all_keeps =
      shards_keep stands setup state clones clones cluster s (slice_set cluster.control.told s true) next (map (start cluster.control.fetch_time) (links_of cluster s))
      (map (lane.with_started true) (lanes_of cluster s)) cluster.clocks state.bag keeps (same_clocks cluster) s_in
      (record {
        placed = keeps.decided.placed;
        whole = keeps.decided.whole;
        count = length-set cluster.control.told s true ∙ keeps.noted.told;
        marks = others_marks cluster.control.told s;
        donor = donor_kept;
        others = λ d r ne. refl;
        grows = λ r r_in. longer [] (λ off. was_told ToDonate) refl (sym (nothing_more (sources_of clones cluster r s).entries)) (λ ended. refl);
        own = recipient_starts stands setup s (course_of cluster.control) (is_true_at cluster.control.reported s) (slice_index_or cluster.control.clashes s None)
            (shard_in cluster s).donor next.donor (sources_of clones cluster s) (links_of cluster s) (lanes_of cluster s) (keeps.recipients s s_in)
            undecided (was_told ToDonate) (ap (λ (x : donor.State). is_unused x.phase) preparing)
            (now_told ToDonate) (ap (λ (x : donor.State). donates x.phase) donating) (ap (λ (x : donor.State). is_unused x.phase) donating)
            (subst (λ p. IsReported setup p (is_true_at cluster.control.reported s) (slice_index_or cluster.control.clashes s None) next.donor (sources_of clones cluster s)
            (map (start cluster.control.fetch_time) (links_of cluster s)) (map (lane.with_started true) (lanes_of cluster s))) (sym cloning) tt);
        contents = subst (λ p. HoldsPlace setup p next (map (lane.with_started true) (lanes_of cluster s)) state.bag s) (sym cloning)
            (λ id. prunes_unseen.now (shard_in cluster s).shard.versions cluster.control.fetch_time id
            ∙ subst (λ p. HoldsPlace setup p (shard_in cluster s) (lanes_of cluster s) state.bag s) cloning (keeps.contents s s_in) id);
        elsewhere = λ d ne id. refl;
      })

  pub donate_keeps : (stamp : Stamp) → Keeps setup state clones (tell.change stamp cluster s)
  donate_keeps stamp =
      subst (λ p. Keeps setup state clones (tell.told_if stamp s (message_in p cluster.control.fetch_time) cluster)) (sym cloning) all_keeps
