-- What every event makes of the links: a crash is counted by its own event, and only a failure fails a link.
use Rattle.std.proofs.Common.{◌≡◌, ◌≤◌, ◌⊎◌, inl, inr, ℕ, ◌+◌, ◌==◌, Bool, true, false, cond, List, [], ◌∷◌, length, map, Option, Some, None, refl, sym, ap, ◌∙◌, subst, slice_index_or, slice_set, arith, min, ◌-◌, ◌^◌}
use Rattle.std.specs.Option.{option_map_or}
use Rattle.resh_value.specs.declared.value.ShardId.{ShardId}
use Rattle.resh_oplog.specs.declared.piece.Piece.{Piece}
use Rattle.resh_stamp.specs.declared.stamp.Stamp.{Stamp}
use Rattle.resh_progress.specs.declared.message.Message.{Message}
use Rattle.resh_progress.specs.declared.message.Message.TheVariants.{Prepare, Donate, Block, Install, Release}
use Rattle.resh_fetcher.specs.Links as link
use Rattle.resh_fetcher.specs.Links.{LinkOf}
use Rattle.resh_fetcher.specs.declared.state.Out.{Out}
use Rattle.resh_coord.specs.Control.{message_of}
use Rattle.resh_coord.specs.declared.cause.Cause.{Cause}
use Rattle.resh_command.specs.declared.command.Command.{Command}
use Rattle.resh_bag.specs.Answer.{Doing, adds, replaces, removes, says}
use Rattle.resh_shard.specs.Writes.{shard_id}
use Rattle.resh_split.specs.Parts.{parts_of, pieces}
use Rattle.resh_model.specs.Licence.{is_crash_of}
use Rattle.resh_model.specs.Orders.{is_abort}
use Rattle.resh_setup.specs.declared.event.Event.{Event}
use Rattle.resh_setup.specs.declared.event.Event.TheVariants.{Client, Begin, Tell, Retell, Advance, Clone, Fetch, Cut, Apply, Again, Record, Crash, Report, Fail}
use Rattle.resh_setup.specs.declared.plan.Who.TheVariants.{Coordinator, Link, Lane}
use Rattle.resh_setup.specs.declared.setup.Setup.{Setup}
use Rattle.resh_setup.specs.declared.trace.Met.{Met}
use Rattle.resh_setup.specs.declared.trace.Met.TheVariants.{Row, CrashedBefore, CrashedAfter, Failed, Lost, NoMemory, NoMemoryInMove}
use Rattle.resh_cells.specs.Cells.{lane_in, link_in, links_of, no_link, on_link, on_links, set_in, with_link}
use Rattle.resh_cells.specs.Cuts.{joined_from, with_part}
use Rattle.resh_cells.specs.declared.cluster.Cluster.{Cluster}
use Rattle.resh_cells.specs.declared.cluster.LinkCell.{LinkCell}
use Rattle.resh_events.specs.Luck as luck
use Rattle.resh_events.specs.Luck.{Asks, asks, quiet, commits, delivers, counted, wanting}
use Rattle.resh_events.specs.Table.{change}
use Rattle.resh_events.specs.Targets.{doing_of, next_command}
use Rattle.resh_events.specs.rows.Again as again
use Rattle.resh_events.specs.rows.Apply as apply
use Rattle.resh_events.specs.rows.Apply.{is_at}
use Rattle.resh_events.specs.rows.Client as client
use Rattle.resh_events.specs.rows.Client.{Coming, coming, waits, refreshes, comes}
use Rattle.resh_events.specs.rows.Clone as clone
use Rattle.resh_events.specs.rows.Crash as crash
use Rattle.resh_events.specs.rows.Cut.{batch_at, cut_at}
use Rattle.resh_events.specs.rows.Fail as fail
use Rattle.resh_events.specs.rows.Fetch as fetch
use Rattle.resh_events.specs.rows.Tell as tell
use Rattle.resh_licence.proofs.Places.{length-map, length-set, map_by, rows_by, set_by}
use Rattle.resh_licence.proofs.Numbers.{both_itself, one}

abbrev pub Rows : Type 0
Rows = List (List LinkCell)

-- a link's crashes rise by so many at most, it fails only where it may, and as many lanes have pieces
pub record Moves (rise : ℕ) (May : Type 0) (before now : LinkCell) : Type 0 where
  pub crashes : now.link.crashes ≤ before.link.crashes + rise
  pub failed : now.link.failed ≡ true → (before.link.failed ≡ true) ⊎ May
  pub sent : length now.sent ≡ length before.sent

abbrev pub cell_in : Rows → ℕ → ℕ → LinkCell
cell_in rows r d = slice_index_or (slice_index_or rows r []) d no_link

-- all links do so, and there are as many
pub record AllMove (rise : ℕ → ℕ → ℕ) (May : ℕ → ℕ → Type 0) (one other : Rows) : Type 0 where
  pub rows : length other ≡ length one
  pub row : (r : ℕ) → length (slice_index_or other r []) ≡ length (slice_index_or one r [])
  pub link : (r d : ℕ) → Moves (rise r d) (May r d) (cell_in one r d) (cell_in other r d)

module _ (rise : ℕ → ℕ → ℕ) (May : ℕ → ℕ → Type 0) where
  stays : (r d : ℕ) (cell : LinkCell) → Moves (rise r d) (May r d) cell cell
  stays r d cell = record { crashes = omega arith; failed = λ h. inl h; sent = refl }

  pub none_move : (one other : Rows) → other ≡ one → AllMove rise May one other
  none_move one other e = record {
    rows = ap length e;
    row = λ r. ap (λ (rows : Rows). length (slice_index_or rows r [])) e;
    link = λ r d. subst (λ (rows : Rows). Moves (rise r d) (May r d) (cell_in one r d) (cell_in rows r d)) (sym e)
        (stays r d (cell_in one r d));
  }

  cell_moves : (rows : Rows) (r d : ℕ) (cell : LinkCell) → Moves (rise r d) (May r d) (cell_in rows r d) cell
      → AllMove rise May rows (set_in rows r d cell)
  cell_moves rows r d cell moves = record {
    rows = length-set rows r _;
    row = λ s. set_by (λ (a b : List LinkCell). length b ≡ length a) rows r s
        (slice_set (slice_index_or rows r []) d cell) [] (λ x. refl) (λ e. length-set (slice_index_or rows r []) d cell);
    link = λ s f. rows_by (Moves (rise s f) (May s f)) rows r d s f cell no_link (stays s f)
        (λ p q. subst (λ n. Moves (rise n f) (May n f) (cell_in rows r d) cell) p
        (subst (λ n. Moves (rise r n) (May r n) (cell_in rows r d) cell) q moves));
  }

  -- a link changed in other things
  link_moves : (cluster : Cluster) (r d : ℕ) (f : LinkOf → LinkOf) → ((l : LinkOf) → (f l).crashes ≡ l.crashes)
      → ((l : LinkOf) → (f l).failed ≡ l.failed) → AllMove rise May cluster.links (on_link r d f cluster).links
  link_moves cluster r d f crashes failed =
      let l : LinkOf = (link_in cluster r d).link in
      let same : (f l).crashes ≡ l.crashes = crashes l in
      cell_moves cluster.links r d (with_link f (link_in cluster r d))
      (record { crashes = omega arith; failed = λ h. inl (sym (failed l) ∙ h); sent = refl })

  links_move : (cluster : Cluster) (r : ℕ) (f : LinkOf → LinkOf) → ((l : LinkOf) → (f l).crashes ≡ l.crashes)
      → ((l : LinkOf) → (f l).failed ≡ l.failed) → AllMove rise May cluster.links (on_links r f cluster).links
  links_move cluster r f crashes failed = record {
    rows = length-set cluster.links r _;
    row = λ s. set_by (λ (a b : List LinkCell). length b ≡ length a) cluster.links r s
        (map (with_link f) (links_of cluster r)) [] (λ x. refl) (λ e. length-map (with_link f) (links_of cluster r));
    link = λ s e. set_by (λ (a b : List LinkCell). Moves (rise s e) (May s e) (slice_index_or a e no_link) (slice_index_or b e no_link))
        cluster.links r s (map (with_link f) (links_of cluster r)) [] (λ row. stays s e (slice_index_or row e no_link))
        (λ q. map_by (Moves (rise s e) (May s e)) (with_link f) (links_of cluster r) e no_link (stays s e) (each s e));
  }
    where
      each : (s e : ℕ) (cell : LinkCell) → Moves (rise s e) (May s e) cell (with_link f cell)
      each s e cell =
          let same : (f cell.link).crashes ≡ cell.link.crashes = crashes cell.link in
          record { crashes = omega arith; failed = λ h. inl (sym (failed cell.link) ∙ h); sent = refl }

length-joined : (lane : ℕ) (sent parts : List (List Piece)) → length (joined_from lane sent parts) ≡ length sent
length-joined lane sent [] = refl
length-joined lane sent (part ∷ parts) =
    length-joined (lane + 1) (with_part lane part sent) parts ∙ length-set sent lane _

kept_crashes : (l : LinkOf) → (link.batch_kept l).crashes ≡ l.crashes
kept_crashes l = by l.out
  where
    by : (out : Option Out) → (option_map_or (λ out. record l { kept = link.kept_at l out; out = None }) out l).crashes ≡ l.crashes
    by None = refl
    by (Some out) = refl

kept_failed : (l : LinkOf) → (link.batch_kept l).failed ≡ l.failed
kept_failed l = by l.out
  where
    by : (out : Option Out) → (option_map_or (λ out. record l { kept = link.kept_at l out; out = None }) out l).failed ≡ l.failed
    by None = refl
    by (Some out) = refl

-- what an event may do to a link
abbrev pub rise_of : Event → ℕ → ℕ → ℕ
rise_of event r d = one (is_crash_of (Link (shard_id r) (shard_id d)) event)

abbrev pub MayFail : Event → ℕ → ℕ → Type 0
MayFail (Fail (Some named) cause) r d = (named.0.0 ≡ r) × (named.1.0 ≡ d)
MayFail other r d = ⊥

one_of : (b : Bool) → b ≡ true → 1 ≤ one b
one_of true e = omega arith
one_of false e = cc

counted_once : (before rise : ℕ) → 1 ≤ rise → min (before + 1) (2 ^ 32 - 1) ≤ before + rise
counted_once before rise h = omega arith

told_moves : (stamp : Stamp) (rise : ℕ → ℕ → ℕ) (May : ℕ → ℕ → Type 0) (s : ℕ) (message : Message) (cluster : Cluster)
    → AllMove rise May cluster.links (tell.told stamp s message cluster).links
told_moves stamp rise May s Prepare cluster = none_move rise May cluster.links cluster.links refl
told_moves stamp rise May s (Donate time) cluster = links_move rise May cluster s (λ l. link.started l time) (λ l. refl) (λ l. refl)
told_moves stamp rise May s Block cluster = none_move rise May cluster.links cluster.links refl
told_moves stamp rise May s Install cluster = links_move rise May cluster s link.closed (λ l. refl) (λ l. refl)
told_moves stamp rise May s Release cluster = links_move rise May cluster s link.closed (λ l. refl) (λ l. refl)

tell_moves : (stamp : Stamp) (rise : ℕ → ℕ → ℕ) (May : ℕ → ℕ → Type 0) (s : ℕ) (cluster : Cluster)
    → AllMove rise May cluster.links (tell.change stamp cluster s).links
tell_moves stamp rise May s cluster = by (message_of cluster.control)
  where
    by : (message : Option Message) → AllMove rise May cluster.links (tell.told_if stamp s message cluster).links
    by None = none_move rise May cluster.links cluster.links refl
    by (Some message) = told_moves stamp rise May s message cluster

apply_links : (cluster : Cluster) (r d l : ℕ) (piece : Option Piece) → (apply.change cluster r d l piece).links ≡ cluster.links
apply_links cluster r d l None = refl
apply_links cluster r d l (Some piece) = refl

again_links : (cluster : Cluster) (r d l : ℕ) (piece : Option Piece) → (again.change cluster r d l piece).links ≡ cluster.links
again_links cluster r d l None = refl
again_links cluster r d l (Some piece) = by (is_at (lane_in cluster r l) piece)
  where
    by : (t : Bool) → (cond t (apply.change cluster r d l (Some piece)) cluster).links ≡ cluster.links
    by true = refl
    by false = refl

cut_moves : (time : ℕ) (cluster : Cluster) (r d : ℕ) (rise : ℕ → ℕ → ℕ) (May : ℕ → ℕ → Type 0)
    → AllMove rise May cluster.links (set_in cluster.links r d (cut_at time (link_in cluster r d)))
cut_moves time cluster r d rise May =
    let cell : LinkCell = link_in cluster r d in
    cell_moves rise May cluster.links r d (cut_at time cell)
    (record {
      crashes = omega arith;
      failed = λ h. inl h;
      sent = length-joined 0 cell.sent (parts_of cell.link.lanes (pieces cell.link.lanes (batch_at time cell.link)));
    })

crash_moves : (cluster : Cluster) (r d : ShardId)
    → AllMove (rise_of (Crash r d)) (MayFail (Crash r d)) cluster.links (crash.change cluster r.0 d.0).links
crash_moves cluster r d =
    let cell : LinkCell = link_in cluster r.0 d.0 in
    cell_moves (rise_of (Crash r d)) (MayFail (Crash r d)) cluster.links r.0 d.0 (with_link link.gone_back cell)
    (record {
      crashes = counted_once cell.link.crashes (rise_of (Crash r d) r.0 d.0) (one_of _ (both_itself r.0 d.0));
      failed = λ h. inl h;
      sent = refl;
    })

fail_moves : (cluster : Cluster) (named : Option (ShardId × ShardId)) (cause : Cause)
    → AllMove (rise_of (Fail named cause)) (MayFail (Fail named cause)) cluster.links (fail.change cluster named cause).links
fail_moves cluster None cause = none_move (rise_of (Fail None cause)) (MayFail (Fail None cause)) cluster.links cluster.links refl
fail_moves cluster (Some named) cause =
    let cell : LinkCell = link_in cluster named.0.0 named.1.0 in
    cell_moves (rise_of (Fail (Some named) cause)) (MayFail (Fail (Some named) cause)) cluster.links named.0.0 named.1.0
    (with_link link.failed cell)
    (record { crashes = omega arith; failed = λ h. inr (refl, refl); sent = refl })

module _ (setup : Setup) (stamp : Stamp) where
  did_links : (doing : Doing) (cluster : Cluster) → (client.did stamp doing cluster).links ≡ cluster.links
  did_links (adds s d) cluster = refl
  did_links (replaces s d t e) cluster = by (t == s)
    where
      by : (same : Bool) → (cond same (client.done_at stamp s (replaces s d t e) cluster) (client.moved stamp s d t e cluster)).links ≡ cluster.links
      by true = refl
      by false = refl
  did_links (removes s d) cluster = refl
  did_links (says reply) cluster = refl

  answered_links : (cluster : Cluster) (c : ℕ) (command : Command) → (client.answered setup cluster stamp c command).links ≡ cluster.links
  answered_links cluster c command = by (is_abort command)
    where
      by : (t : Bool) → (cond t (client.abort_asked c cluster) (client.done setup cluster stamp c (doing_of setup cluster c command))).links ≡ cluster.links
      by true = refl
      by false = did_links (doing_of setup cluster c command) cluster

  client_links : (cluster : Cluster) (c : ℕ) → (client.change setup cluster stamp c).links ≡ cluster.links
  client_links cluster c = by (next_command setup cluster c)
    where
      come : (command : Command) (coming : Coming) → (client.change_by setup cluster stamp c command coming).links ≡ cluster.links
      come command waits = refl
      come command refreshes = refl
      come command comes = answered_links cluster c command

      by : (next : Option Command) → (client.change_of setup cluster stamp c next).links ≡ cluster.links
      by None = refl
      by (Some command) = come command (coming setup cluster c command)

  row_moves : (cluster : Cluster) (event : Event) (piece : Option Piece)
      → AllMove (rise_of event) (MayFail event) cluster.links (change setup stamp cluster event piece).links
  unfolding change
  row_moves cluster (Client c) piece = none_move (rise_of (Client c)) (MayFail (Client c)) cluster.links _ (client_links cluster c)
  row_moves cluster Begin piece = none_move (rise_of Begin) (MayFail Begin) cluster.links _ refl
  row_moves cluster (Tell s) piece = tell_moves stamp (rise_of (Tell s)) (MayFail (Tell s)) s.0 cluster
  row_moves cluster (Retell s message) piece = none_move (rise_of (Retell s message)) (MayFail (Retell s message)) cluster.links _ refl
  row_moves cluster Advance piece = none_move (rise_of Advance) (MayFail Advance) cluster.links _ refl
  row_moves cluster (Clone r d) piece =
      link_moves (rise_of (Clone r d)) (MayFail (Clone r d)) cluster r.0 d.0
      (λ l. link.with_cloned l (clone.got cluster r.0 d.0) (clone.are_last l (clone.got cluster r.0 d.0))) (λ l. refl) (λ l. refl)
  row_moves cluster (Fetch r d) piece =
      link_moves (rise_of (Fetch r d)) (MayFail (Fetch r d)) cluster r.0 d.0 (λ l. link.with_fetched l (fetch.got cluster r.0 d.0))
      (λ l. refl) (λ l. refl)
  row_moves cluster (Cut r d) piece = cut_moves stamp.time cluster r.0 d.0 (rise_of (Cut r d)) (MayFail (Cut r d))
  row_moves cluster (Apply r d l) piece =
      none_move (rise_of (Apply r d l)) (MayFail (Apply r d l)) cluster.links _ (apply_links cluster r.0 d.0 l piece)
  row_moves cluster (Again r d l position) piece =
      none_move (rise_of (Again r d l position)) (MayFail (Again r d l position)) cluster.links _ (again_links cluster r.0 d.0 l piece)
  row_moves cluster (Record r d) piece =
      link_moves (rise_of (Record r d)) (MayFail (Record r d)) cluster r.0 d.0 link.batch_kept kept_crashes kept_failed
  row_moves cluster (Crash r d) piece = crash_moves cluster r d
  row_moves cluster (Report r) piece = none_move (rise_of (Report r)) (MayFail (Report r)) cluster.links _ refl
  row_moves cluster (Fail named cause) piece = fail_moves cluster named cause

  counted_links : (asked : Asks) (cluster : Cluster) → (counted setup asked cluster).links ≡ cluster.links
  counted_links quiet cluster = refl
  counted_links (commits Coordinator) cluster = refl
  counted_links (commits (Link r d)) cluster = refl
  counted_links (commits (Lane r d l)) cluster = refl
  counted_links (delivers who) cluster = refl

  wanting_links : (event : Event) (cluster : Cluster) → (wanting setup event cluster).links ≡ cluster.links
  wanting_links (Client c) cluster = refl
  wanting_links other cluster = refl

  pub event_moves : (cluster : Cluster) (event : Event) (piece : Option Piece) (met : Met)
      → AllMove (rise_of event) (MayFail event) cluster.links (luck.change setup stamp cluster event piece met).links
  event_moves cluster event piece Row = row_moves cluster event piece
  event_moves cluster event piece CrashedBefore =
      none_move (rise_of event) (MayFail event) cluster.links _ (counted_links (asks cluster event piece) cluster)
  event_moves cluster event piece CrashedAfter =
      subst (λ (rows : Rows). AllMove (rise_of event) (MayFail event) cluster.links rows)
      (sym (counted_links (asks cluster event piece) (change setup stamp cluster event piece)))
      (row_moves cluster event piece)
  event_moves cluster event piece Failed = none_move (rise_of event) (MayFail event) cluster.links _ refl
  event_moves cluster event piece Lost = none_move (rise_of event) (MayFail event) cluster.links _ refl
  event_moves cluster event piece NoMemory = none_move (rise_of event) (MayFail event) cluster.links _ (wanting_links event cluster)
  event_moves cluster event piece NoMemoryInMove = none_move (rise_of event) (MayFail event) cluster.links _ (wanting_links event cluster)
