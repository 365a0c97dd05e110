-- Every event leaves what leads on.
use Rattle.std.proofs.Common.{◌≡◌, ◌<◌, ℕ, Bool, true, false, cond, nat_lt, List, [], length, Option, Some, None, refl, sym, ap, subst, ◌∙◌, slice_index_or, arith}
use Rattle.std.specs.Option.{option_map_or}
use Rattle.resh_value.specs.declared.value.ShardId.{ShardId}
use Rattle.resh_bag.specs.Bag.{Document}
use Rattle.resh_chunks.specs.Chunks.{Chunks}
use Rattle.resh_cells.specs.Cells.{lane_in, lanes_of, link_in, no_link, no_shard, on_control, on_lane, on_shard, set_in, shard_in, with_link, with_shard}
use Rattle.resh_cells.specs.declared.cluster.Cluster.{Cluster}
use Rattle.resh_cells.specs.declared.cluster.LinkCell.{LinkCell}
use Rattle.resh_cells.specs.declared.cluster.ShardCell.{ShardCell}
use Rattle.resh_coord.specs.Control.{Control, advanced, begun, is_true_at, message_in, with_crash}
use Rattle.resh_coord.specs.declared.cause.Cause.{Cause}
use Rattle.resh_coord.specs.declared.cause.End.{End}
use Rattle.resh_coord.specs.declared.phase.Phase.{Phase}
use Rattle.resh_coord.specs.declared.phase.Phase.TheVariants.{Initializing, PreparingToDonate, Cloning, Applying, BlockingWrites, Committing, Aborting, Done}
use Rattle.resh_donor.specs.States as donor
use Rattle.resh_events.specs.Luck as luck
use Rattle.resh_events.specs.Luck.{Asks, asks, quiet, commits, delivers, counted, wanting}
use Rattle.resh_events.specs.Runs.{after, cluster_after}
use Rattle.resh_events.specs.Table.{change, may}
use Rattle.resh_events.specs.rows.Again as again
use Rattle.resh_events.specs.rows.Apply as apply
use Rattle.resh_events.specs.rows.Apply.{is_at}
use Rattle.resh_events.specs.rows.Clone as clone
use Rattle.resh_events.specs.rows.Cut.{cut_at}
use Rattle.resh_events.specs.rows.Fail as fail
use Rattle.resh_events.specs.rows.Fetch as fetch
use Rattle.resh_events.specs.rows.Report as report
use Rattle.resh_events.specs.rows.Tell as tell
use Rattle.resh_fetcher.specs.Links as link
use Rattle.resh_fetcher.specs.Links.{LinkOf}
use Rattle.resh_fetcher.specs.declared.state.Out.{Out}
use Rattle.resh_invariant.specs.Courses.{IsDonorIn, IsStage}
use Rattle.resh_invariant.specs.Keeping.{Keeps}
use Rattle.resh_invariant.specs.Sources.{Clones}
use Rattle.resh_invariant.proofs.Ones.{both, off_of}
use Rattle.resh_lane.specs.Lanes as lane
use Rattle.resh_model.specs.Orders.{State}
use Rattle.resh_oplog.specs.declared.piece.Piece.{Piece}
use Rattle.resh_progress.specs.Kinds.{ToBlock, ToDonate}
use Rattle.resh_progress.specs.Tellings.{has}
use Rattle.resh_progress.specs.declared.message.Message.TheVariants.{Prepare, Donate, Block, Install, Release}
use Rattle.resh_setup.specs.Validity.{IsValid}
use Rattle.resh_setup.specs.declared.event.Event.{Event}
use Rattle.resh_setup.specs.declared.event.Event.TheVariants.{Client, Begin, Tell, Retell, Advance, Clone, Fetch, Cut, Apply, Again, Record, Crash, Report, Fail}
use Rattle.resh_setup.specs.declared.plan.Who.TheVariants.{Coordinator, Link, Lane}
use Rattle.resh_setup.specs.declared.setup.Setup.{Setup}
use Rattle.resh_setup.specs.declared.trace.Met.{Met}
use Rattle.resh_setup.specs.declared.trace.Met.TheVariants.{Row, CrashedBefore, CrashedAfter, Failed, Lost, NoMemory, NoMemoryInMove}
use Rattle.resh_shard.specs.Shards.{blocked_at, prepared, pruned_to}
use Rattle.resh_stamp.specs.declared.stamp.Stamp.{Stamp}
use Rattle.resh_leading.specs.Laws.{StaysLeading}
use Rattle.resh_leading.specs.Leading.{AreAllCut, LeadsOn}
use Rattle.resh_leading.proofs.Asking.{command_leads, refused_leads, same_leads}
use Rattle.resh_leading.proofs.Counting.{Grows, counts_as, counts_same, counts_shard, grows_same}
use Rattle.resh_leading.proofs.Linking.{Cell, Leads, Links, advanced_undecided, begun_undecided, cell_links, cut_links, cut_mapped, donates_at, kept_cut, leads_on_control, leads_then, links_same, started_links, unless_undecided}
use Rattle.resh_leading.proofs.Pieces.{cut_all}
use Rattle.resh_leading.proofs.Places.{set_link, set_pair}
use Rattle.resh_leading.proofs.Telling.{block_grows, block_quiet, donate_grows, install_grows, prepare_grows, prepare_quiet, release_grows}

never : {A : Type 0} → true ≡ false → A
never e = cc

less : (a b : ℕ) → nat_lt a b ≡ true → a < b
less a b t = grind arith

some_end : (e : End) → Some e ≡ None → ⊥
some_end e h = cc

-- a link that is kept
kept_open : (l : LinkOf) → l.is_open ≡ true → (link.batch_kept l).is_open ≡ true
kept_open l h = by l.out
  where
    by : (o : Option Out) → (option_map_or (λ (out : Out). let k : LinkOf = record l { kept = link.kept_at l out; out = None } in k) o l).is_open ≡ true
    by None = h
    by (Some out) = h

kept_failed : (l : LinkOf) → l.failed ≡ false → (link.batch_kept l).failed ≡ false
kept_failed l h = by l.out
  where
    by : (o : Option Out) → (option_map_or (λ (out : Out). let k : LinkOf = record l { kept = link.kept_at l out; out = None } in k) o l).failed ≡ false
    by None = h
    by (Some out) = h

module _ (setup : Setup) (cluster : Cluster) where
  -- one link, and nothing else
  cell_leads : (r d : ℕ) (cell : LinkCell) (other : Cluster) → Cell setup r d (link_in cluster r d) cell
      → other.links ≡ set_in cluster.links r d cell → other.shards ≡ cluster.shards → other.clients ≡ cluster.clients
      → other.control ≡ cluster.control → Leads setup cluster other
  cell_leads r d cell other keeps links shards clients control = record {
    counts = counts_same setup cluster other shards clients;
    undecided = λ e. ap (λ (c : Control). c.decision) (sym control) ∙ e;
    links = cell_links setup r d cell cluster other keeps links shards;
  }

  control_leads : (f : Control → Control) → ((f cluster.control).decision ≡ None → cluster.control.decision ≡ None)
      → Leads setup cluster (on_control f cluster)
  control_leads f keeps = leads_on_control setup f cluster cluster keeps (same_leads setup cluster cluster refl refl refl refl)

  -- a shard is told something, by what is decided
  told_leads : (s : ℕ) (f : ShardCell → ShardCell) (other : Cluster)
      → Grows (length setup.shards) 0 (shard_in cluster s) (f (shard_in cluster s))
      → other.shards ≡ (on_shard s f cluster).shards → other.clients ≡ cluster.clients → other.control.decision ≡ cluster.control.decision
      → Links setup cluster other → Leads setup cluster other
  told_leads s f other grows shards clients decision links = record {
    counts = counts_as setup cluster (on_shard s f cluster) other shards clients (counts_shard setup s f cluster grows);
    undecided = λ e. sym decision ∙ e;
    links = links;
  }

  quiet_shard : (s : ℕ) (f : ShardCell → ShardCell)
      → (has (f (shard_in cluster s)).donor.told ToDonate ≡ true → has (shard_in cluster s).donor.told ToDonate ≡ true)
      → (k : ℕ) → donates_at (on_shard s f cluster) k ≡ true → donates_at cluster k ≡ true
  quiet_shard s f keeps =
      set_pair (λ k (x y : ShardCell). has y.donor.told ToDonate ≡ true → has x.donor.told ToDonate ≡ true) cluster.shards s
      (f (shard_in cluster s)) no_shard (λ k x h. h) keeps

  report_leads : (r : ℕ) → Leads setup cluster (report.change cluster r)
  report_leads r =
      let phase : Phase = cluster.control.phase in
      let moved : ShardCell → ShardCell = λ cell. record cell { recipient = report.moved_on phase cell.recipient } in
      let grows : Grows (length setup.shards) 0 (shard_in cluster r) (shard_in cluster r) = grows_same (length setup.shards) 0 (shard_in cluster r) in
      told_leads r moved (report.change cluster r) (record { logs = grows.logs; stores = grows.stores }) refl refl refl
      (links_same setup cluster (report.change cluster r) refl (quiet_shard r moved (λ h. h)))

  apply_leads : (r d l : ℕ) (piece : Option Piece) → Leads setup cluster (apply.change cluster r d l piece)
  apply_leads r d l None = same_leads setup cluster cluster refl refl refl refl
  apply_leads r d l (Some piece) = same_leads setup cluster _ refl refl refl refl

  again_leads : (r d l : ℕ) (piece : Option Piece) → Leads setup cluster (again.change cluster r d l piece)
  again_leads r d l None = same_leads setup cluster cluster refl refl refl refl
  again_leads r d l (Some piece) = by (is_at (lane_in cluster r l) piece)
    where
      by : (t : Bool) → Leads setup cluster (cond t (on_lane r l (lane.taken piece) cluster) cluster)
      by true = same_leads setup cluster _ refl refl refl refl
      by false = same_leads setup cluster cluster refl refl refl refl

  -- a failure is decided
  fail_leads : (named : Option (ShardId × ShardId)) (cause : Cause) → Leads setup cluster (fail.change cluster named cause)
  fail_leads None cause = record {
    counts = counts_same setup cluster _ refl refl;
    undecided = λ e. absurd (unless_undecided cause cluster.control e);
    links = cut_links setup cluster _ (unless_undecided cause cluster.control) (λ r d h. h);
  }
  fail_leads (Some named) cause = record {
    counts = counts_same setup cluster _ refl refl;
    undecided = λ e. absurd (unless_undecided cause cluster.control e);
    links = cut_links setup cluster _ (unless_undecided cause cluster.control)
        (set_link (λ i j (x y : LinkCell). AreAllCut setup.lanes x x.link.out → AreAllCut setup.lanes y y.link.out) cluster.links named.0.0 named.1.0
        (with_link link.failed (link_in cluster named.0.0 named.1.0)) (λ i j c h. h) (λ h. h));
  }

-- a shard is told what its phase has to say
module _ (setup : Setup) (state : State) (clones : Clones) (cluster : Cluster) (valid : IsValid setup)
    (keeps : Keeps setup state clones cluster) (stamp : Stamp) (s : ℕ) (s_in : s < length setup.shards)
    (once : is_true_at cluster.control.told s ≡ false) where
  ended_links : (other : Cluster) → (other.control.decision ≡ None → ⊥)
      → other.links ≡ (tell.ended s cluster).links → Links setup cluster other
  ended_links other decided same =
      cut_links setup cluster other decided
      (λ r d h. subst
      (λ (l : List (List LinkCell)). AreAllCut setup.lanes (slice_index_or (slice_index_or l r []) d no_link)
      (slice_index_or (slice_index_or l r []) d no_link).link.out) (sym same)
      (cut_mapped setup link.closed cluster.links s (λ cell k. k) r d h))

  stage_in : (p : Phase) → cluster.control.phase ≡ p → IsStage p cluster.control.decision state.fate
  stage_in p is = subst (λ (q : Phase). IsStage q cluster.control.decision state.fate) is keeps.decided.stage

  unblocked : cluster.control.phase ≡ BlockingWrites → has (shard_in cluster s).donor.told ToBlock ≡ false
  unblocked is =
      ap (λ (x : donor.State). has x.told ToBlock)
      (subst (λ t. IsDonorIn BlockingWrites cluster.control.decision t (shard_in cluster s).donor) once
      (subst (λ (q : Phase). IsDonorIn q cluster.control.decision (is_true_at cluster.control.told s) (shard_in cluster s).donor) is
      (keeps.donors s s_in).donor))

  message_leads : (p : Phase) → cluster.control.phase ≡ p
      → Leads setup cluster (tell.told_if stamp s (message_in p cluster.control.fetch_time) cluster)
  message_leads Initializing is = same_leads setup cluster cluster refl refl refl refl
  message_leads PreparingToDonate is =
      let f : ShardCell → ShardCell = λ cell. with_shard prepared (tell.on_donor Prepare cell) in
      told_leads setup cluster s f _ (prepare_grows (length setup.shards) (shard_in cluster s)) refl refl refl
      (links_same setup cluster _ refl (quiet_shard setup cluster s f (prepare_quiet (shard_in cluster s).donor)))
  message_leads Cloning is =
      let time : ℕ = cluster.control.fetch_time in
      let f : ShardCell → ShardCell = λ cell. with_shard (pruned_to time) (tell.on_both (Donate time) cell) in
      told_leads setup cluster s f _ (donate_grows (length setup.shards) time (shard_in cluster s)) refl refl refl
      (started_links setup s time f cluster _ refl refl keeps.link_rows (λ lt. (keeps.recipients s lt).link_count))
  message_leads Applying is = same_leads setup cluster cluster refl refl refl refl
  message_leads BlockingWrites is =
      let f : ShardCell → ShardCell = λ cell. with_shard (blocked_at stamp) (tell.on_donor Block cell) in
      told_leads setup cluster s f _
      (block_grows (length setup.shards) stamp (shard_in cluster s) (unblocked is)
      (ap (λ (m : Chunks). m.shards) (keeps.donors s s_in).of.new_map ∙ valid.new.count)) refl refl refl
      (links_same setup cluster _ refl (quiet_shard setup cluster s f (block_quiet (shard_in cluster s).donor)))
  message_leads Committing is =
      let documents : List Document = tell.outputs (lanes_of cluster s) in
      let f : ShardCell → ShardCell = λ cell. with_shard (tell.with_outputs stamp.time documents) (tell.on_both Install cell) in
      told_leads setup cluster s f _ (install_grows (length setup.shards) stamp.time documents (shard_in cluster s)) refl refl refl
      (ended_links _ (λ e. some_end _ (sym (stage_in Committing is).0 ∙ e)) refl)
  message_leads Aborting is =
      let f : ShardCell → ShardCell = λ cell. with_shard (tell.with_old_map stamp.time) (tell.on_both Release cell) in
      told_leads setup cluster s f _ (release_grows (length setup.shards) stamp.time (shard_in cluster s)) refl refl refl
      (ended_links _ (λ e. some_end _ (sym (stage_in Aborting is).1 ∙ e)) refl)
  message_leads Done is = same_leads setup cluster cluster refl refl refl refl

module _ (setup : Setup) (state : State) (clones : Clones) (cluster : Cluster) (valid : IsValid setup)
    (keeps : Keeps setup state clones cluster) (stamp : Stamp) where
  tell_leads : (s : ℕ) → tell.may cluster s ≡ true → Leads setup cluster (tell.change stamp cluster s)
  tell_leads s is =
      let t = both _ _ is in
      let in_marks : s < length cluster.control.told = less s (length cluster.control.told) (both _ _ t.0).1 in
      message_leads setup state clones cluster valid keeps stamp s (subst (λ n. s < n) keeps.noted.told in_marks)
      (off_of (is_true_at cluster.control.told s) t.1) cluster.control.phase refl

  cut_leads : (r d time : ℕ) (other : Cluster) → other.links ≡ set_in cluster.links r d (cut_at time (link_in cluster r d))
      → other.shards ≡ cluster.shards → other.clients ≡ cluster.clients → other.control ≡ cluster.control → Leads setup cluster other
  cut_leads r d time other =
      cell_leads setup cluster r d (cut_at time (link_in cluster r d)) other (record {
        is_open = λ h. h;
        failed = λ h. h;
        cut = λ r_in d_in h.
            let of = (keeps.recipients r r_in).each_link d d_in in
            cut_all setup.lanes time (link_in cluster r d) of.owned.lanes of.cuts;
      })

  row_leads : (event : Event) (piece : Option Piece) → may setup cluster event piece ≡ true
      → Leads setup cluster (change setup stamp cluster event piece)
  unfolding change may
  row_leads (Client c) piece is = command_leads setup cluster stamp c keeps.client_count
  row_leads Begin piece is = control_leads setup cluster begun (begun_undecided cluster.control)
  row_leads (Tell s) piece is = tell_leads s.0 is
  row_leads (Retell s message) piece is = same_leads setup cluster cluster refl refl refl refl
  row_leads Advance piece is = control_leads setup cluster (advanced stamp.time) (advanced_undecided stamp.time cluster.control)
  row_leads (Clone r d) piece is =
      let got : List Document = clone.got cluster r.0 d.0 in
      cell_leads setup cluster r.0 d.0 (with_link (λ l. link.with_cloned l got (clone.are_last l got)) (link_in cluster r.0 d.0)) _
      (record { is_open = λ h. h; failed = λ h. h; cut = λ r_in d_in h. h }) refl refl refl refl
  row_leads (Fetch r d) piece is =
      cell_leads setup cluster r.0 d.0 (with_link (λ l. link.with_fetched l (fetch.got cluster r.0 d.0)) (link_in cluster r.0 d.0)) _
      (record { is_open = λ h. h; failed = λ h. h; cut = λ r_in d_in h. h }) refl refl refl refl
  row_leads (Cut r d) piece is = cut_leads r.0 d.0 stamp.time _ refl refl refl refl
  row_leads (Apply r d l) piece is = apply_leads setup cluster r.0 d.0 l piece
  row_leads (Again r d l position) piece is = again_leads setup cluster r.0 d.0 l piece
  row_leads (Record r d) piece is =
      cell_leads setup cluster r.0 d.0 (with_link link.batch_kept (link_in cluster r.0 d.0)) _
      (record {
        is_open = kept_open (link_in cluster r.0 d.0).link;
        failed = kept_failed (link_in cluster r.0 d.0).link;
        cut = λ r_in d_in. kept_cut setup.lanes (link_in cluster r.0 d.0);
      }) refl refl refl refl
  row_leads (Crash r d) piece is =
      cell_leads setup cluster r.0 d.0 (with_link link.gone_back (link_in cluster r.0 d.0)) _
      (record { is_open = λ h. h; failed = λ h. h; cut = λ r_in d_in h. tt }) refl refl refl refl
  row_leads (Report r) piece is = report_leads setup cluster r.0
  row_leads (Fail named cause) piece is = fail_leads setup cluster named cause

  counted_leads : (asked : Asks) (other : Cluster) → Leads setup cluster other → Leads setup cluster (luck.counted setup asked other)
  counted_leads quiet other leads = leads
  counted_leads (commits Coordinator) other leads = leads_on_control setup with_crash cluster other (λ e. e) leads
  counted_leads (commits (Link r d)) other leads = leads
  counted_leads (commits (Lane r d l)) other leads = leads
  counted_leads (delivers who) other leads = leads

  wanting_leads : (event : Event) (piece : Option Piece) → may setup cluster event piece ≡ true
      → Leads setup cluster (wanting setup event cluster)
  unfolding may
  wanting_leads (Client c) piece is = refused_leads setup cluster c keeps.client_count is
  wanting_leads other piece is = same_leads setup cluster cluster refl refl refl refl

  met_leads : (event : Event) (piece : Option Piece) (met : Met) → may setup cluster event piece ≡ true
      → Leads setup cluster (luck.change setup stamp cluster event piece met)
  met_leads event piece Row is = row_leads event piece is
  met_leads event piece CrashedBefore is =
      counted_leads (asks cluster event piece) cluster (same_leads setup cluster cluster refl refl refl refl)
  met_leads event piece CrashedAfter is =
      counted_leads (asks cluster event piece) (change setup stamp cluster event piece) (row_leads event piece is)
  met_leads event piece Failed is = same_leads setup cluster cluster refl refl refl refl
  met_leads event piece Lost is = same_leads setup cluster cluster refl refl refl refl
  met_leads event piece NoMemory is = wanting_leads event piece is
  met_leads event piece NoMemoryInMove is = wanting_leads event piece is

-- with later clocks
clocked : (setup : Setup) (other last : Cluster) → last.shards ≡ other.shards → last.clients ≡ other.clients
    → last.links ≡ other.links → last.control ≡ other.control → LeadsOn setup other → LeadsOn setup last
clocked setup other last shards clients links control is =
    leads_then setup other last (same_leads setup other last shards clients links control) is

pub stays_leading : StaysLeading
unfolding after
stays_leading setup state clones run m valid keeps is stands =
    clocked setup
    (luck.change setup m.made.stamp run.cluster m.made.event m.given.piece m.made.met) (cluster_after setup run m) refl refl refl refl
    (leads_then setup run.cluster _
    (met_leads setup state clones run.cluster valid keeps m.made.stamp m.made.event m.given.piece m.made.met stands.may) is)
