-- The row of a crash: the link and its lanes go back to what is kept.
use Rattle.std.proofs.Common.{◌≡◌, ◌≤◌, ◌<◌, ◌⊎◌, inl, inr, ⊎_elim, ℕ, zero, suc, Bool, true, false, cond, min, List, [], ◌∷◌, length, slice_index, slice_index_or, slice_set, Option, None, refl, sym, ap, subst, ◌∙◌, arith}
use Rattle.resh_value.specs.declared.value.Value.{Value}
use Rattle.resh_cells.specs.Cells.{lanes_of, link_in, links_of, no_lane, no_link, shard_in, with_link}
use Rattle.resh_cells.specs.declared.cluster.Cluster.{Cluster}
use Rattle.resh_cells.specs.declared.cluster.LinkCell.{LinkCell}
use Rattle.resh_coord.specs.Control.{is_true_at}
use Rattle.resh_coord.specs.declared.phase.Phase.{Phase}
use Rattle.resh_coord.specs.declared.phase.Phase.TheVariants.{Initializing, PreparingToDonate, Cloning, Applying, BlockingWrites, Committing, Aborting, Done}
use Rattle.resh_donor.specs.States as donor
use Rattle.resh_donor.specs.declared.phase.DonorPhase.{DonorPhase}
use Rattle.resh_donor.specs.declared.phase.DonorPhase.TheVariants as going
use Rattle.resh_events.specs.rows.Crash as crash
use Rattle.resh_events.specs.rows.Crash.{back}
use Rattle.resh_events.specs.rows.Report.{first_waiting}
use Rattle.resh_feed.specs.Feeds.{whats}
use Rattle.resh_feed.specs.Lanes.{lane_feed}
use Rattle.resh_fetcher.specs.Laws.{StandsOn}
use Rattle.resh_fetcher.specs.Links as link
use Rattle.resh_fetcher.specs.Links.{LinkOf}
use Rattle.resh_fetcher.specs.Standing.{LinkFits}
use Rattle.resh_lane.specs.Lanes.{LaneOf, gone_back, number_of}
use Rattle.resh_lane.proofs.Fitting.{goes_on_fitting}
use Rattle.resh_lane.proofs.Staying.{stays_lane}
use Rattle.resh_model.specs.Orders.{State}
use Rattle.resh_place.specs.Lanes.{held_in}
use Rattle.resh_progress.specs.Kinds.{ToDonate, ToInstall}
use Rattle.resh_progress.specs.Tellings.{has}
use Rattle.resh_rules.specs.Pools.{PoolOf, first_stashed, held_of, lesser}
use Rattle.resh_setup.specs.declared.setup.Setup.{Setup}
use Rattle.resh_story.specs.Stories.{entries_for}
use Rattle.resh_versions.specs.Standing.{now}
use Rattle.resh_invariant.specs.Courses.{Course, IsGoing, course_of, is_unused}
use Rattle.resh_invariant.specs.Frames.{with_lanes}
use Rattle.resh_invariant.specs.Keeping.{HoldsPlace, Keeps, is_moving}
use Rattle.resh_invariant.specs.Recipients.{HasAll, IsLaneKept, IsLinkKept, IsRecipientKept, IsReported}
use Rattle.resh_invariant.specs.Sources.{Clones, Source, feed_by, feeds_on, sources_of}
use Rattle.resh_invariant.proofs.Finishing.{kept_count, kept_many, whole_front}
use Rattle.resh_invariant.proofs.Framing.{lanes_keep}
use Rattle.resh_invariant.proofs.Going.{GoesOrEnds, goes_or_ends}
use Rattle.resh_invariant.proofs.Ones.{at_set, link_keeps, link_there, never, row_there}

-- who was told to donate isn't unused
told_going : (to : DonorPhase) → has (donor.told_until to) ToDonate ≡ true → is_unused to ≡ false
told_going going.Unused e = never (sym e)
told_going going.PreparingToDonate e = never (sym e)
told_going going.Donating e = refl
told_going going.BlockingWrites e = refl
told_going going.Done e = refl

told_used : (state : donor.State) → GoesOrEnds state → has state.told ToDonate ≡ true → is_unused state.phase ≡ false
told_used state (inl (to, is)) on =
    ap (λ (s : donor.State). is_unused s.phase) is ∙ told_going to (sym (ap (λ (s : donor.State). has s.told ToDonate) is) ∙ on)
told_used state (inr is) on = ap is_unused is.done

-- lanes that went back
back_long : (d : ℕ) (lanes : List LaneOf) (numbers : List ℕ) → length (back d lanes numbers) ≡ length lanes
back_long d [] numbers = refl
back_long d (x ∷ lanes) [] = ap suc (back_long d lanes [])
back_long d (x ∷ lanes) (n ∷ numbers) = ap suc (back_long d lanes numbers)

back_at : (d : ℕ) (lanes : List LaneOf) (numbers : List ℕ) (l : ℕ) → l < length lanes → length lanes ≤ length numbers
    → slice_index_or (back d lanes numbers) l no_lane ≡ gone_back d (number_of numbers l) (slice_index_or lanes l no_lane)
back_at d [] numbers l lt long = absurd (none l lt)
  where
    none : (l : ℕ) → l < 0 → ⊥
    none l lt = omega arith
back_at d (x ∷ lanes) [] l lt long = absurd (few (length lanes) long)
  where
    few : (n : ℕ) → suc n ≤ 0 → ⊥
    few n le = omega arith
back_at d (x ∷ lanes) (n ∷ numbers) zero lt long = refl
back_at d (x ∷ lanes) (n ∷ numbers) (suc l) lt long = back_at d lanes numbers l (omega (arith, lt)) (omega (arith, long))

same_pools : (d : ℕ) (lanes : List LaneOf) (numbers : List ℕ) (l : ℕ) → (slice_index_or (back d lanes numbers) l no_lane).pool ≡ (slice_index_or lanes l no_lane).pool
same_pools d [] numbers l = refl
same_pools d (x ∷ lanes) [] zero = refl
same_pools d (x ∷ lanes) [] (suc l) = same_pools d lanes [] l
same_pools d (x ∷ lanes) (n ∷ numbers) zero = refl
same_pools d (x ∷ lanes) (n ∷ numbers) (suc l) = same_pools d lanes numbers l

same_waiting : (d : ℕ) (lanes : List LaneOf) (numbers : List ℕ) → first_waiting (back d lanes numbers) ≡ first_waiting lanes
same_waiting d [] numbers = refl
same_waiting d (x ∷ lanes) [] = ap (lesser (first_stashed x.pool.stashes)) (same_waiting d lanes [])
same_waiting d (x ∷ lanes) (n ∷ numbers) = ap (lesser (first_stashed x.pool.stashes)) (same_waiting d lanes numbers)

-- a lane that went back
module _ (setup : Setup) (l : ℕ) (own : donor.State) (sources : ℕ → Source) (lane : LaneOf) (kept : IsLaneKept setup l own sources lane)
    (used : is_unused own.phase ≡ false) (d number : ℕ) where
  pub lane_back : IsLaneKept setup l own sources (gone_back d number lane)
  lane_back = record {
    sound = stays_lane.back lane d number kept.sound;
    pool = kept.pool;
    chunks = kept.chunks;
    stashes = kept.stashes;
    started = kept.started;
    fits = λ on. goes_on_fitting.back lane d number (feeds_on setup.lanes l sources) kept.sound (kept.fits on);
    untold = kept.untold;
    unused = λ on. never (sym on ∙ used);
  }

  -- its position is as it was, or the lesser
  pub back_position : (e : ℕ) → (number_of (gone_back d number lane).at e ≡ number_of lane.at e)
      ⊎ ((e ≡ d) × (number_of (gone_back d number lane).at e ≡ min (number_of lane.at d) number))
  back_position e = at_set lane.at d e (min (number_of lane.at d) number) 0

-- a recipient whose lanes went back to what is kept of a donor
module _ (setup : Setup) (r : ℕ) (course : Course) (reported : Bool) (clash : Option Value) (own : donor.State) (sources : ℕ → Source)
    (links : List LinkCell) (lanes : List LaneOf) (kept : IsRecipientKept setup r course reported clash own sources links lanes)
    (used : is_unused own.phase ≡ false) (d : ℕ) (numbers : List ℕ)
    (are : numbers ≡ (slice_index_or links d no_link).link.kept.lanes) (many : length numbers ≡ setup.lanes) (d_in : d < length setup.shards)
    (ends : HasAll setup sources links lanes → (l : ℕ) → l < setup.lanes → number_of numbers l ≡ length (feeds_on setup.lanes l sources d)) where
  lane_is : (l : ℕ) → l < setup.lanes → slice_index_or (back d lanes numbers) l no_lane ≡ gone_back d (number_of numbers l) (slice_index_or lanes l no_lane)
  lane_is l l_in = back_at d lanes numbers l (subst (λ n. l < n) (sym kept.lane_count) l_in) (let a = kept.lane_count in omega (arith, a, many))

  not_above : (l e : ℕ) → l < setup.lanes → e < length setup.shards
      → number_of (slice_index_or links e no_link).link.kept.lanes l ≤ number_of (slice_index_or (back d lanes numbers) l no_lane).at e
  not_above l e l_in e_in =
      let was = kept.behind e l e_in l_in in
      subst (λ (x : LaneOf). number_of (slice_index_or links e no_link).link.kept.lanes l ≤ number_of x.at e) (sym (lane_is l l_in))
      (⊎_elim
      (λ (same : number_of (gone_back d (number_of numbers l) (slice_index_or lanes l no_lane)).at e ≡ number_of (slice_index_or lanes l no_lane).at e). omega (arith, same, was))
      (λ (is : (e ≡ d) × (number_of (gone_back d (number_of numbers l) (slice_index_or lanes l no_lane)).at e ≡ min (number_of (slice_index_or lanes l no_lane).at d) (number_of numbers l))).
      let now = is.1 in
      let there : number_of (slice_index_or lanes l no_lane).at e ≡ number_of (slice_index_or lanes l no_lane).at d = ap (number_of (slice_index_or lanes l no_lane).at) is.0 in
      let number : number_of (slice_index_or links e no_link).link.kept.lanes l ≡ number_of numbers l =
      ap (λ k. number_of (slice_index_or links k no_link).link.kept.lanes l) is.0 ∙ ap (λ ns. number_of ns l) (sym are) in
      omega (arith, now, there, number, was))
      (back_position setup l own sources (slice_index_or lanes l no_lane) (kept.each_lane l l_in) used d (number_of numbers l) e))

  all_back : HasAll setup sources links lanes → HasAll setup sources links (back d lanes numbers)
  all_back all = record {
    finished = all.finished;
    ended = all.ended;
    at = λ l e l_in e_in.
        let was = all.at l e l_in e_in in
        ap (λ (x : LaneOf). number_of x.at e) (lane_is l l_in)
        ∙ ⊎_elim
        (λ (same : number_of (gone_back d (number_of numbers l) (slice_index_or lanes l no_lane)).at e ≡ number_of (slice_index_or lanes l no_lane).at e). same ∙ was)
        (λ (is : (e ≡ d) × (number_of (gone_back d (number_of numbers l) (slice_index_or lanes l no_lane)).at e ≡ min (number_of (slice_index_or lanes l no_lane).at d) (number_of numbers l))).
        let now = is.1 in
        let end = ends all l l_in in
        let there = all.at l d l_in d_in in
        let same : length (feeds_on setup.lanes l sources e) ≡ length (feeds_on setup.lanes l sources d) = ap (λ k. length (feeds_on setup.lanes l sources k)) is.0 in
        omega (arith, now, end, there, same))
        (back_position setup l own sources (slice_index_or lanes l no_lane) (kept.each_lane l l_in) used d (number_of numbers l) e);
  }

  report_back : (phase : Phase) → IsReported setup phase reported clash own sources links lanes → IsReported setup phase reported clash own sources links (back d lanes numbers)
  report_back BlockingWrites was = λ on. (all_back (was on).0, (was on).1 ∙ sym (same_waiting d lanes numbers))
  report_back Committing was = λ on. all_back (was on)
  report_back Initializing was = tt
  report_back PreparingToDonate was = tt
  report_back Cloning was = tt
  report_back Applying was = tt
  report_back Aborting was = tt
  report_back Done was = tt

  pub lanes_back : IsRecipientKept setup r course reported clash own sources links (back d lanes numbers)
  lanes_back = record {
    link_count = kept.link_count;
    lane_count = back_long d lanes numbers ∙ kept.lane_count;
    each_link = kept.each_link;
    each_lane = λ l l_in. subst (IsLaneKept setup l own sources) (sym (lane_is l l_in))
        (lane_back setup l own sources (slice_index_or lanes l no_lane) (kept.each_lane l l_in) used d (number_of numbers l));
    behind = λ e l e_in l_in. not_above l e l_in e_in;
    reports = report_back course.phase kept.reports;
  }

module _ (stands : StandsOn) (setup : Setup) (state : State) (clones : Clones) (cluster : Cluster) (keeps : Keeps setup state clones cluster)
    (r d : ℕ) (is : crash.may cluster r d ≡ true) where
  abbrev l : LinkOf
  l = (link_in cluster r d).link

  r_in : r < length setup.shards
  r_in = row_there setup state clones cluster keeps r d is

  d_in : d < length setup.shards
  d_in = link_there setup state clones cluster keeps r d is

  kept : IsLinkKept setup r d (course_of cluster.control) (shard_in cluster r).donor (sources_of clones cluster r d) (link_in cluster r d)
  kept = (keeps.recipients r r_in).each_link d d_in

  used : is_unused (shard_in cluster r).donor.phase ≡ false
  used = told_used (shard_in cluster r).donor (goes_or_ends cluster.control.phase cluster.control.decision _ (shard_in cluster r).donor (keeps.donors r r_in).donor) (kept.opened is)

  stood : LinkFits setup.lanes (clones d r) (sources_of clones cluster r d).entries l
  stood = (kept.reads (kept.opened is)).fits

  ends : HasAll setup (sources_of clones cluster r) (links_of cluster r) (lanes_of cluster r) → (k : ℕ) → k < setup.lanes
      → number_of l.kept.lanes k ≡ length (feeds_on setup.lanes k (sources_of clones cluster r) d)
  ends all k k_in =
      kept_count setup.lanes (clones d r) (sources_of clones cluster r d).entries l stood k k_in
      ∙ ap (λ f. length (lane_feed setup.lanes k (whats f)))
      (sym (whole_front setup.lanes (clones d r) (entries_for (shard_in cluster d).shard cluster.control.fetch_time r) l stood (all.finished d d_in)))

  abbrev gone : Cluster
  gone = with_lanes r (back d (lanes_of cluster r) l.kept.lanes) cluster

  gone_keeps : Keeps setup state clones (with_lanes r (back d (lanes_of cluster r) (link_in cluster r d).link.kept.lanes) cluster)
  gone_keeps =
      lanes_keep setup state clones cluster keeps r (back d (lanes_of cluster r) l.kept.lanes)
      (λ r_in. lanes_back setup r (course_of cluster.control) (is_true_at cluster.control.reported r) (slice_index_or cluster.control.clashes r None) (shard_in cluster r).donor
      (sources_of clones cluster r) (links_of cluster r) (lanes_of cluster r) (keeps.recipients r r_in) used d l.kept.lanes refl
      (kept_many setup.lanes (clones d r) (sources_of clones cluster r d).entries l stood) d_in ends)
      (λ r_in id.
      ap (λ (p : PoolOf). cond (is_moving cluster.control.phase (has (shard_in cluster r).donor.told ToInstall)) (held_of p id).output (now (shard_in cluster r).shard.versions id))
      (same_pools d (lanes_of cluster r) l.kept.lanes _) ∙ keeps.contents r r_in id)

  pub crash_keeps : Keeps setup state clones (crash.change cluster r d)
  crash_keeps =
      link_keeps setup state clones gone gone_keeps r d (with_link link.gone_back (link_in cluster r d))
      (λ _ _. record {
        owned = record { recipient = kept.owned.recipient; donor = kept.owned.donor; lanes = kept.owned.lanes; batch = kept.owned.batch };
        cuts = kept.cuts;
        started = kept.started;
        opened = kept.opened;
        reads = λ on. record { time = (kept.reads on).time; fits = stands.back setup.lanes (clones d r) (sources_of clones cluster r d).entries l stood };
        sent = kept.sent;
        untold = λ off. let was = kept.untold off in record { place = was.place; out = refl; buffer = refl; read_out = was.kept_out; kept_out = was.kept_out; sent = was.sent };
        unused = λ none off. never (sym (kept.opened is) ∙ off);
      })
      (λ _ _ k k_in. (gone_keeps.recipients r r_in).behind d k d_in k_in) (λ done. done)
