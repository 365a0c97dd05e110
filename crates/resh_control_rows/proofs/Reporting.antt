-- A recipient reports.
use Rattle.std.proofs.Common.{◌≡◌, ◌≤◌, ◌<◌, ⊎_elim, ℕ, Bool, true, false, not, ◌&&◌, nat_lt, length, slice_index_or, slice_set, Option, None, refl, sym, ap, subst, ◌∙◌, arith, rules}
use Rattle.std.proofs.lemmas.List.{length-set}
use Rattle.resh_value.specs.declared.value.Value.{Value}
use Rattle.resh_cells.specs.Cells.{lanes_of, links_of, no_link, shard_in}
use Rattle.resh_cells.specs.Clocks.{clock_of}
use Rattle.resh_cells.specs.declared.cluster.Cluster.{Cluster}
use Rattle.resh_cells.specs.declared.cluster.LinkCell.{LinkCell}
use Rattle.resh_cells.specs.declared.cluster.ShardCell.{ShardCell}
use Rattle.resh_coord.specs.Control.{is_true_at, may_report, takes_reports}
use Rattle.resh_coord.specs.declared.phase.Phase.{Phase}
use Rattle.resh_coord.specs.declared.phase.Phase.TheVariants as phase
use Rattle.resh_donor.specs.States as donor
use Rattle.resh_events.specs.rows.Clone.{donates}
use Rattle.resh_events.specs.rows.Report as report
use Rattle.resh_events.specs.rows.Report.{all_links, are_ready, clash_in, first_waiting, moved_on}
use Rattle.resh_feed.specs.Feeds.{whats}
use Rattle.resh_feed.specs.Lanes.{lane_feed}
use Rattle.resh_fetcher.specs.Laws.{StandsOn}
use Rattle.resh_fetcher.specs.Standing.{LinkFits}
use Rattle.resh_lane.specs.Lanes.{number_of}
use Rattle.resh_model.specs.Orders.{State}
use Rattle.resh_progress.specs.Kinds.{ToDonate}
use Rattle.resh_progress.specs.Tellings.{has}
use Rattle.resh_setup.specs.declared.setup.Setup.{Setup}
use Rattle.resh_story.specs.Stories.{entries_for}
use Rattle.resh_invariant.specs.Courses.{IsDonorIn, course_of}
use Rattle.resh_invariant.specs.Frames.{AreLater, with_shard}
use Rattle.resh_invariant.specs.Keeping.{Keeps}
use Rattle.resh_invariant.specs.Recipients.{HasAll, IsReported}
use Rattle.resh_invariant.specs.Sources.{Clones, feeds_on, sources_of}
use Rattle.resh_invariant.proofs.Finishing.{has_ended, kept_count, whole_front}
use Rattle.resh_invariant.proofs.Framing.{shard_keeps, stays, there_set}
use Rattle.resh_invariant.proofs.Ones.{at_set, both, never}
use Rattle.resh_invariant.proofs.Steering.{recipient_steers}
use Rattle.resh_control_rows.proofs.Marks.{each_of}

-- while writes are blocked a donor donates
pub blocking_told : (told : Bool) (decision : _) (state : donor.State) → IsDonorIn phase.BlockingWrites decision told state
    → (has state.told ToDonate ≡ true) × (donates state.phase ≡ true)
blocking_told true decision state is = (ap (λ (s : donor.State). has s.told ToDonate) is, ap (λ (s : donor.State). donates s.phase) is)
blocking_told false decision state is = (ap (λ (s : donor.State). has s.told ToDonate) is, ap (λ (s : donor.State). donates s.phase) is)

module _ (setup : Setup) (state : State) (clones : Clones) (cluster : Cluster) (keeps : Keeps setup state clones cluster) (r : ℕ) (r_in : r < length setup.shards) where
  -- whose links are finished has taken the whole of every feed
  module _ (blocking : cluster.control.phase ≡ phase.BlockingWrites) (all : all_links (λ l. l.kept.finished) (links_of cluster r) ≡ true) where
    told : (has (shard_in cluster r).donor.told ToDonate ≡ true) × (donates (shard_in cluster r).donor.phase ≡ true)
    told = blocking_told (is_true_at cluster.control.told r) cluster.control.decision (shard_in cluster r).donor
        (subst (λ p. IsDonorIn p cluster.control.decision (is_true_at cluster.control.told r) (shard_in cluster r).donor) blocking (keeps.donors r r_in).donor)

    done : (d : ℕ) → d < length setup.shards → (slice_index_or (links_of cluster r) d no_link).link.kept.finished ≡ true
    done d d_in = each_of (λ (x : LinkCell). x.link.kept.finished) (links_of cluster r) no_link all d (subst (λ n. d < n) (sym (keeps.recipients r r_in).link_count) d_in)

    stood : (d : ℕ) → d < length setup.shards → LinkFits setup.lanes (clones d r) (sources_of clones cluster r d).entries (slice_index_or (links_of cluster r) d no_link).link
    stood d d_in = (((keeps.recipients r r_in).each_link d d_in).reads told.0).fits

    pub finished_all : HasAll setup (sources_of clones cluster r) (links_of cluster r) (lanes_of cluster r)
    finished_all = record {
      finished = done;
      ended = λ d d_in. has_ended setup.lanes (clones d r) (entries_for (shard_in cluster d).shard cluster.control.fetch_time r) (slice_index_or (links_of cluster r) d no_link).link (stood d d_in) (done d d_in);
      at = λ l d l_in d_in.
          let end : number_of (slice_index_or (links_of cluster r) d no_link).link.kept.lanes l ≡ length (feeds_on setup.lanes l (sources_of clones cluster r) d) =
          kept_count setup.lanes (clones d r) (sources_of clones cluster r d).entries (slice_index_or (links_of cluster r) d no_link).link (stood d d_in) l l_in
          ∙ ap (λ f. length (lane_feed setup.lanes l (whats f)))
          (sym (whole_front setup.lanes (clones d r) (entries_for (shard_in cluster d).shard cluster.control.fetch_time r) (slice_index_or (links_of cluster r) d no_link).link (stood d d_in) (done d d_in))) in
          let behind = (keeps.recipients r r_in).behind d l d_in l_in in
          let lane = (keeps.recipients r r_in).each_lane l l_in in
          let fit = (lane.fits told.1).each d (subst (λ n. d < n) (sym lane.stashes) d_in) in
          let low = fit.reached in
          let high = fit.within in
          omega (arith, end, behind, low, high);
    }

pub same_clocks : (cluster : Cluster) → AreLater cluster.clocks cluster.clocks
same_clocks cluster = record { count = refl; rise = λ x. least (clock_of cluster.clocks x) }
  where
    least : (n : ℕ) → n ≤ n
    least n = omega arith

module _ (stands : StandsOn) (setup : Setup) (state : State) (clones : Clones) (cluster : Cluster) (keeps : Keeps setup state clones cluster) (r : ℕ) (is : report.may cluster r ≡ true) where
  tests : (takes_reports cluster.control.phase ≡ true) × (r < length setup.shards) × (are_ready cluster.control.phase (links_of cluster r) ≡ true)
  tests =
      let all = both (may_report cluster.control r) (are_ready cluster.control.phase (links_of cluster r)) is in
      let first = both (takes_reports cluster.control.phase) (nat_lt r (length cluster.control.reported) && not (is_true_at cluster.control.reported r)) all.0 in
      let more = both (nat_lt r (length cluster.control.reported)) (not (is_true_at cluster.control.reported r)) first.1 in
      (first.0, subst (λ n. r < n) keeps.noted.reported (less r (length cluster.control.reported) more.0), all.1)
    where
      less : (a b : ℕ) → nat_lt a b ≡ true → a < b
      less a b h = search (arith, rules)

  -- the recipient's own machine
  abbrev next : ShardCell
  next = record (shard_in cluster r) { recipient = moved_on cluster.control.phase (shard_in cluster r).recipient }

  moved : Keeps setup state clones (with_shard r next cluster.clocks cluster)
  moved =
      shard_keeps stands setup state clones clones cluster r next cluster.clocks state.bag keeps (same_clocks cluster) tests.1
      (record {
        placed = keeps.decided.placed;
        whole = keeps.decided.whole;
        count = keeps.noted.told;
        marks = λ d ne. refl;
        donor = let kept = keeps.donors r tests.1 in record {
          of = kept.of;
          donor = kept.donor;
          serves = kept.serves;
          story = kept.story;
          log = kept.log;
          stored = kept.stored;
          prepared = kept.prepared;
          named = kept.named;
          past = kept.past;
          floor = kept.floor;
          cloned = kept.cloned;
          unsealed = kept.unsealed;
          whole = kept.whole;
          sealed = kept.sealed;
          items = kept.items;
        };
        others = λ d q ne. refl;
        grows = λ q q_in. stays (sources_of clones cluster q r) _ refl refl refl;
        own = keeps.recipients r tests.1;
        contents = keeps.contents r tests.1;
        elsewhere = λ d ne id. refl;
      })

  abbrev note : Option Value
  note = clash_in cluster.control.phase (lanes_of cluster r)

  abbrev after : Cluster
  after = with_shard r next cluster.clocks cluster

  reports : (p : Phase) → cluster.control.phase ≡ p → (q : ℕ) → q < length setup.shards
      → IsReported setup p (is_true_at (slice_set cluster.control.reported r true) q) (slice_index_or (slice_set cluster.control.clashes r (clash_in p (lanes_of cluster r))) q None)
      (shard_in after q).donor (sources_of clones after q) (links_of cluster q) (lanes_of cluster q)
  reports phase.BlockingWrites e q q_in = λ on.
      ⊎_elim
      (λ same. had (subst (λ p. IsReported setup p (is_true_at cluster.control.reported q) (slice_index_or cluster.control.clashes q None) (shard_in after q).donor (sources_of clones after q) (links_of cluster q) (lanes_of cluster q)) e (moved.recipients q q_in).reports (sym same ∙ on)))
      (λ there. (
        subst (λ k. HasAll setup (sources_of clones after k) (links_of cluster k) (lanes_of cluster k)) (sym there.0)
            (finished_all setup state clones after moved r tests.1 e (subst (λ p. are_ready p (links_of cluster r) ≡ true) e tests.2)),
        now there.0,
      ))
      (at_set cluster.control.reported r q true false)
    where
      now : q ≡ r → slice_index_or (slice_set cluster.control.clashes r (first_waiting (lanes_of cluster r))) q None ≡ first_waiting (lanes_of cluster q)
      now same = subst (λ k. slice_index_or (slice_set cluster.control.clashes r (first_waiting (lanes_of cluster r))) k None ≡ first_waiting (lanes_of cluster k)) (sym same)
          (there_set cluster.control.clashes r (first_waiting (lanes_of cluster r)) None (subst (λ n. r < n) (sym keeps.noted.clashes) tests.1))

      had : HasAll setup (sources_of clones after q) (links_of cluster q) (lanes_of cluster q) × (slice_index_or cluster.control.clashes q None ≡ first_waiting (lanes_of cluster q))
          → HasAll setup (sources_of clones after q) (links_of cluster q) (lanes_of cluster q)
          × (slice_index_or (slice_set cluster.control.clashes r (first_waiting (lanes_of cluster r))) q None ≡ first_waiting (lanes_of cluster q))
      had was = (was.0, ⊎_elim (λ same. same ∙ was.1) (λ there. now there.0) (at_set cluster.control.clashes r q (first_waiting (lanes_of cluster r)) None))
  reports phase.Committing e q q_in = never (sym tests.0 ∙ ap takes_reports e)
  reports phase.Initializing e q q_in = tt
  reports phase.PreparingToDonate e q q_in = tt
  reports phase.Cloning e q q_in = tt
  reports phase.Applying e q q_in = tt
  reports phase.Aborting e q q_in = tt
  reports phase.Done e q q_in = tt

  pub report_keeps : Keeps setup state clones (report.change cluster r)
  report_keeps = record {
    shard_count = moved.shard_count;
    clock_count = moved.clock_count;
    lane_rows = moved.lane_rows;
    link_rows = moved.link_rows;
    client_count = moved.client_count;
    answered = moved.answered;
    noted = record {
      told = keeps.noted.told;
      reported = length-set cluster.control.reported r true ∙ keeps.noted.reported;
      clashes = length-set cluster.control.clashes r note ∙ keeps.noted.clashes;
    };
    decided = moved.decided;
    clients = moved.clients;
    donors = moved.donors;
    recipients = λ q lt. recipient_steers setup q (course_of cluster.control) (course_of cluster.control)
        (is_true_at cluster.control.reported q) (is_true_at (slice_set cluster.control.reported r true) q)
        (slice_index_or cluster.control.clashes q None) (slice_index_or (slice_set cluster.control.clashes r note) q None) (shard_in after q).donor
        (sources_of clones after q) (links_of cluster q) (lanes_of cluster q) (λ none. none) (reports cluster.control.phase refl q lt) (moved.recipients q lt);
    contents = moved.contents;
  }
