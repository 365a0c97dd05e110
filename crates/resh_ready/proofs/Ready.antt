-- Links of which nothing is left to do are ready, phase by phase.
use Rattle.std.proofs.Common.{◌≡◌, ◌<◌, ◌⊎◌, inl, inr, ℕ, Bool, true, false, length, List, None, refl, sym, ap, subst, ◌∙◌}
use Rattle.resh_cells.specs.Cells.{link_in, links_of, shard_in}
use Rattle.resh_cells.specs.declared.cluster.Cluster.{Cluster}
use Rattle.resh_coord.specs.Control.{all_true, is_true_at}
use Rattle.resh_coord.specs.declared.phase.Phase.{Phase}
use Rattle.resh_coord.specs.declared.phase.Phase.TheVariants.{Initializing, PreparingToDonate, Cloning, Applying, BlockingWrites, Committing, Aborting, Done}
use Rattle.resh_events.specs.rows.Clone.{donates}
use Rattle.resh_events.specs.rows.Report.{all_links, are_ready}
use Rattle.resh_feed.specs.Items.{has_final, up_to_final}
use Rattle.resh_fetcher.specs.Laws.{log_part}
use Rattle.resh_fetcher.specs.Links.{LinkOf, is_cloned}
use Rattle.resh_fetcher.specs.Standing.{LinkFits}
use Rattle.resh_model.specs.Orders.{State}
use Rattle.resh_oplog.specs.Logs.{later_entries}
use Rattle.resh_oplog.specs.declared.entry.Entry.{Entry}
use Rattle.resh_progress.specs.Kinds.{ToBlock}
use Rattle.resh_progress.specs.Tellings.{has}
use Rattle.resh_rounds.specs.Rounds.{is_waiting}
use Rattle.resh_setup.specs.Validity.{IsValid}
use Rattle.resh_setup.specs.declared.setup.Setup.{Setup}
use Rattle.resh_story.specs.Stories.{entries_for}
use Rattle.resh_story.proofs.Entries.{has_none, no_final, some_none}
use Rattle.resh_value.specs.declared.value.ShardId.{ShardId}
use Rattle.resh_invariant.specs.Courses.{IsDonorIn, IsStage}
use Rattle.resh_invariant.specs.Keeping.{Keeps}
use Rattle.resh_invariant.specs.Sources.{Clones}
use Rattle.resh_invariant.proofs.Finishing.{has_ended}
use Rattle.resh_invariant.proofs.Going.{donating_not_over}
use Rattle.resh_invariant.proofs.Ones.{never}
use Rattle.resh_leading.specs.Leading.{LeadsOn}
use Rattle.resh_ready.specs.Laws.{FetchesNothing, IdleLinksAreReady, IsIdleLink}
use Rattle.resh_ready.proofs.Fetching.{no_more}
use Rattle.resh_ready.proofs.Lists.{all_pass, marked}
use Rattle.resh_ready.proofs.Phases.{applying_donates, applying_open, blocking_blocks, blocking_donates, cloning_donates}
use Rattle.resh_ready.proofs.Resting.{cloned, kept, read_out, reading, reads, same_end, some_batch}

-- a link once nothing is decided and every shard donates
module _ (setup : Setup) (state : State) (clones : Clones) (cluster : Cluster) (valid : IsValid setup) (keeps : Keeps setup state clones cluster)
    (leads : LeadsOn setup cluster) (none : cluster.control.decision ≡ None)
    (donate : (s : ℕ) → s < length setup.shards → donates (shard_in cluster s).donor.phase ≡ true)
    (r d : ℕ) (r_in : r < length setup.shards) (d_in : d < length setup.shards) (idle : IsIdleLink setup cluster r d) where
  abbrev l : LinkOf
  l = (link_in cluster r d).link

  abbrev log : List Entry
  log = (shard_in cluster d).shard.log.entries

  abbrev told : List Entry
  told = entries_for (shard_in cluster d).shard cluster.control.fetch_time r

  near_or_last : (l.near ≡ true) ⊎ (l.reading.finished ≡ true)
  near_or_last = by (reading setup state clones cluster valid keeps leads none donate r d r_in d_in idle)
    where
      by : (l.reading.finished ≡ true) ⊎ ((l.reading.finished ≡ false) × FetchesNothing cluster r d) → (l.near ≡ true) ⊎ (l.reading.finished ≡ true)
      by (inl is) = inr is
      by (inr (off, fetches)) = inl fetches.near

  -- the last entry is there where it was got
  ended : l.reading.finished ≡ true → has_final (up_to_final told) ≡ true
  ended is =
      has_ended setup.lanes (clones d r) told l (reads setup state clones cluster valid keeps leads none donate r d r_in d_in idle).fits
      (same_end setup state clones cluster valid keeps leads none donate r d r_in d_in idle ∙ is)

  whole : up_to_final told ≡ told
  whole = (keeps.donors d d_in).whole (donating_not_over (shard_in cluster d).donor.phase (donate d d_in)) r

  pub is_near : has (shard_in cluster d).donor.told ToBlock ≡ false → l.near ≡ true
  is_near unblocked = by near_or_last
    where
      no_last : has_final told ≡ false
      no_last = has_none told (some_none _ log (no_final log ((keeps.donors d d_in).unsealed unblocked)))

      by : (l.near ≡ true) ⊎ (l.reading.finished ≡ true) → l.near ≡ true
      by (inl near) = near
      by (inr is) = never (sym (ended is) ∙ ap has_final whole ∙ no_last)

  same_part : log_part l log ≡ up_to_final told
  same_part =
      ap (λ t. up_to_final (later_entries t l.recipient.0 log)) (reads setup state clones cluster valid keeps leads none donate r d r_in d_in idle).time
      ∙ ap (λ (q : ShardId). up_to_final (later_entries cluster.control.fetch_time q.0 log))
      (kept setup state clones cluster valid keeps leads none donate r d r_in d_in idle).owned.recipient

  pub is_finished : has (shard_in cluster d).donor.told ToBlock ≡ true → l.kept.finished ≡ true
  is_finished blocked =
      same_end setup state clones cluster valid keeps leads none donate r d r_in d_in idle
      ∙ by (reading setup state clones cluster valid keeps leads none donate r d r_in d_in idle)
    where
      by : (l.reading.finished ≡ true) ⊎ ((l.reading.finished ≡ false) × FetchesNothing cluster r d) → l.reading.finished ≡ true
      by (inl is) = is
      by (inr (off, fetches)) =
          let fits : LinkFits setup.lanes (clones d r) (log_part l log) l =
          subst (λ es. LinkFits setup.lanes (clones d r) es l) (sym same_part) (reads setup state clones cluster valid keeps leads none donate r d r_in d_in idle).fits in
          let no_last : has_final (log_part l log) ≡ false =
          no_more setup.lanes (clones d r) log l (keeps.donors d d_in).log (some_batch setup state clones cluster valid keeps leads none donate r d r_in d_in idle)
          (read_out setup state clones cluster valid keeps leads none donate r d r_in d_in idle) off fits fetches.nothing in
          never (sym ((keeps.donors d d_in).sealed blocked r r_in) ∙ sym (ap has_final (same_part ∙ whole)) ∙ no_last)

module _ (setup : Setup) (state : State) (clones : Clones) (cluster : Cluster) (r : ℕ) (valid : IsValid setup) (keeps : Keeps setup state clones cluster)
    (leads : LeadsOn setup cluster) (r_in : r < length setup.shards) (idle : (d : ℕ) → d < length setup.shards → IsIdleLink setup cluster r d) where
  -- every link of it passes
  each_link : (passes : LinkOf → Bool) → ((d : ℕ) → d < length setup.shards → passes (link_in cluster r d).link ≡ true)
      → all_links passes (links_of cluster r) ≡ true
  each_link passes each = all_pass passes (links_of cluster r) (λ d lt. each d (subst (λ n. d < n) (keeps.recipients r r_in).link_count lt))

  all_told : all_true cluster.control.told ≡ true → (s : ℕ) → s < length setup.shards → is_true_at cluster.control.told s ≡ true
  all_told all s s_in = marked cluster.control.told s all (subst (λ n. s < n) (sym keeps.noted.told) s_in)

  undecided_in : (p : Phase) → cluster.control.phase ≡ p → IsStage p cluster.control.decision state.fate
  undecided_in p is = subst (λ q. IsStage q cluster.control.decision state.fate) is keeps.decided.stage

  donor_in : (p : Phase) → cluster.control.phase ≡ p → (s : ℕ) → s < length setup.shards
      → IsDonorIn p cluster.control.decision (is_true_at cluster.control.told s) (shard_in cluster s).donor
  donor_in p is s s_in =
      subst (λ q. IsDonorIn q cluster.control.decision (is_true_at cluster.control.told s) (shard_in cluster s).donor) is (keeps.donors s s_in).donor

  pub ready_in : (p : Phase) → cluster.control.phase ≡ p → is_waiting p cluster.control.told ≡ true → are_ready p (links_of cluster r) ≡ true
  ready_in Cloning is all =
      let donate : (s : ℕ) → s < length setup.shards → donates (shard_in cluster s).donor.phase ≡ true =
      λ s s_in. cloning_donates cluster.control.decision (is_true_at cluster.control.told s) (shard_in cluster s).donor (all_told all s s_in) (donor_in Cloning is s s_in) in
      each_link is_cloned (λ d d_in. cloned setup state clones cluster valid keeps leads (undecided_in Cloning is).0 donate r d r_in d_in (idle d d_in))
  ready_in Applying is all =
      let donate : (s : ℕ) → s < length setup.shards → donates (shard_in cluster s).donor.phase ≡ true =
      λ s s_in. applying_donates cluster.control.decision (is_true_at cluster.control.told s) (shard_in cluster s).donor (donor_in Applying is s s_in) in
      each_link (λ k. k.near) (λ d d_in. is_near setup state clones cluster valid keeps leads (undecided_in Applying is).0 donate r d r_in d_in (idle d d_in)
      (applying_open cluster.control.decision (is_true_at cluster.control.told d) (shard_in cluster d).donor (donor_in Applying is d d_in)))
  ready_in BlockingWrites is all =
      let donate : (s : ℕ) → s < length setup.shards → donates (shard_in cluster s).donor.phase ≡ true =
      λ s s_in. blocking_donates cluster.control.decision (is_true_at cluster.control.told s) (shard_in cluster s).donor (all_told all s s_in) (donor_in BlockingWrites is s s_in) in
      each_link (λ k. k.kept.finished) (λ d d_in. is_finished setup state clones cluster valid keeps leads (undecided_in BlockingWrites is).0 donate r d r_in d_in (idle d d_in)
      (blocking_blocks cluster.control.decision (is_true_at cluster.control.told d) (shard_in cluster d).donor (all_told all d d_in) (donor_in BlockingWrites is d d_in)))
  ready_in Initializing is all = never (sym all)
  ready_in PreparingToDonate is all = never (sym all)
  ready_in Committing is all = never (sym all)
  ready_in Aborting is all = never (sym all)
  ready_in Done is all = never (sym all)

pub links_are_ready : IdleLinksAreReady
links_are_ready setup state clones cluster r valid keeps leads waits r_in idle =
    ready_in setup state clones cluster r valid keeps leads r_in idle cluster.control.phase refl waits
