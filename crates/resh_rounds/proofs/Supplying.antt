-- No event adds to the supply, whatever it met: a link that failed stays so, no phase comes back, and no reply is lost.
use Rattle.std.proofs.Common.{◌≡◌, ◌<◌, ◌≤◌, ℕ, zero, suc, ◌+◌, ◌-◌, ◌==◌, Bool, true, false, cond, List, [], ◌∷◌, ◌++◌, length, map, Option, Some, None, refl, sym, ap, subst, ◌∙◌, slice_get, slice_index_or, slice_set}
use native.Mathlib.Omega.{arith}
use Rattle.std.specs.Option.{option_map_or}
use Rattle.resh_value.specs.declared.value.ShardId.{ShardId}
use Rattle.resh_value.specs.declared.value.Value.{Value}
use Rattle.resh_oplog.specs.declared.piece.Piece.{Piece}
use Rattle.resh_stamp.specs.declared.stamp.Stamp.{Stamp}
use Rattle.resh_progress.specs.declared.message.Message.{Message}
use Rattle.resh_progress.specs.declared.message.Message.TheVariants.{Prepare, Donate, Block, Install, Release}
use Rattle.resh_lane.specs.Lanes as lane
use Rattle.resh_fetcher.specs.Links as link
use Rattle.resh_fetcher.specs.Links.{LinkOf}
use Rattle.resh_fetcher.specs.declared.state.Out.{Out}
use Rattle.resh_coord.specs.Control.{Control, advanced, begun, message_of, unless_decided, with_crash, with_report, with_told}
use Rattle.resh_coord.specs.declared.cause.Cause.{Cause}
use Rattle.resh_coord.specs.declared.cause.Cause.TheVariants.{Asked}
use Rattle.resh_command.specs.declared.command.Command.{Command}
use Rattle.resh_command.specs.declared.reply.Reply.{Reply}
use Rattle.resh_command.specs.declared.reply.Reply.TheVariants as reply
use Rattle.resh_bag.specs.Answer.{Doing, adds, replaces, removes, says, reply_of}
use Rattle.resh_model.specs.Orders.{commands_of, is_abort}
use Rattle.resh_shard.specs.declared.act.Which.{Which}
use Rattle.resh_shard.specs.declared.act.Which.TheVariants.{Old, New}
use Rattle.resh_setup.specs.declared.event.Event.{Event}
use Rattle.resh_setup.specs.declared.event.Event.TheVariants.{Client, Begin, Tell, Retell, Advance, Clone, Fetch, Cut, Apply, Again, Record, Crash, Report, Fail}
use Rattle.resh_setup.specs.declared.plan.Who.TheVariants.{Coordinator, Link, Lane}
use Rattle.resh_setup.specs.declared.setup.Setup.{Setup}
use Rattle.resh_setup.specs.declared.trace.Met.{Met}
use Rattle.resh_setup.specs.declared.trace.Met.TheVariants.{Row, CrashedBefore, CrashedAfter, Failed, Lost, NoMemory, NoMemoryInMove}
use Rattle.resh_cells.specs.Cells.{client_in, lane_in, lanes_of, link_in, links_of, no_client, no_link, on_client, on_control, on_lane, on_link, on_links, on_shard, set_in, with_lanes, with_link}
use Rattle.resh_cells.specs.declared.cluster.ClientCell.{ClientCell}
use Rattle.resh_cells.specs.declared.cluster.Cluster.{Cluster}
use Rattle.resh_cells.specs.declared.cluster.LinkCell.{LinkCell}
use Rattle.resh_events.specs.Luck as luck
use Rattle.resh_events.specs.Luck.{Asks, asks, quiet, commits, delivers, counted, wanting}
use Rattle.resh_events.specs.Lucks.{called}
use Rattle.resh_events.specs.Runs.{Moment, Run, after, after_all, asked_by, cluster_after}
use Rattle.resh_events.specs.Table.{change}
use Rattle.resh_events.specs.Targets.{doing_of, next_command}
use Rattle.resh_events.specs.rows.Again as again
use Rattle.resh_events.specs.rows.Apply as apply
use Rattle.resh_events.specs.rows.Apply.{is_at}
use Rattle.resh_events.specs.rows.Client as client
use Rattle.resh_events.specs.rows.Client.{Coming, coming, waits, refreshes, comes}
use Rattle.resh_events.specs.rows.Clone as clone
use Rattle.resh_events.specs.rows.Crash as crash
use Rattle.resh_events.specs.rows.Crash.{back}
use Rattle.resh_events.specs.rows.Cut.{cut_at}
use Rattle.resh_events.specs.rows.Fail as fail
use Rattle.resh_events.specs.rows.Fetch as fetch
use Rattle.resh_events.specs.rows.Report as report
use Rattle.resh_events.specs.rows.Tell as tell
use Rattle.resh_keeping.proofs.Places.{length-set}
use Rattle.resh_rounds.specs.Sums.{upto}
use Rattle.resh_rounds.specs.Supplies.{NoEventAdds, alive, calls_left, client_left, clients_left, links_left, maps_left, phases_left, supply}
use Rattle.resh_ending.proofs.Paying.{has_failed}
use Rattle.resh_ending.proofs.Places.{set_kept}
use Rattle.resh_rounds.proofs.Spending.{called_most}
use Rattle.resh_rounds.proofs.Stages.{StageGoes, advanced_goes, begun_goes, crash_goes, no_more_phases, report_goes, stage_same, stage_then, told_goes, unless_goes}
use Rattle.resh_rounds.proofs.Sums.{length_more, same, set_most, upto_most}

-- what an event leaves of the supply in a cluster
pub record Goes (one other : Cluster) : Type 0 where
  pub failed : (r d : ℕ) → has_failed one r d ≡ true → has_failed other r d ≡ true
  pub stage : StageGoes one.control other.control
  pub clients : (c n : ℕ) → client_left n (client_in other c) ≤ client_left n (client_in one c)
  pub many : length other.clients ≡ length one.clients

at_most : (a b c : ℕ) → b ≤ a → c ≤ b → c ≤ a
at_most a b c h k = omega arith

pub goes_then : (one other last : Cluster) → Goes one other → Goes other last → Goes one last
goes_then one other last h k = record {
  failed = λ r d t. k.failed r d (h.failed r d t);
  stage = stage_then one.control other.control last.control h.stage k.stage;
  clients = λ c n. at_most (client_left n (client_in one c)) (client_left n (client_in other c)) (client_left n (client_in last c))
      (h.clients c n) (k.clients c n);
  many = k.many ∙ h.many;
}

pub alike : (one other : Cluster) → other.links ≡ one.links → other.control ≡ one.control → other.clients ≡ one.clients
    → Goes one other
alike one other links control clients = record {
  failed = λ r d h. subst (λ (rows : List (List LinkCell)). (slice_index_or (slice_index_or rows r []) d no_link).link.failed ≡ true)
      (sym links) h;
  stage = subst (λ (c : Control). StageGoes one.control c) (sym control) (stage_same one.control);
  clients = λ c n. subst (λ (cs : List ClientCell). client_left n (slice_index_or cs c no_client) ≤ client_left n (client_in one c))
      (sym clients) (same (client_left n (client_in one c)));
  many = ap (λ (cs : List ClientCell). length cs) clients;
}

-- one link changed that stays failed
cell_goes : (r d : ℕ) (cell : LinkCell) (cluster : Cluster)
    → (has_failed cluster r d ≡ true → cell.link.failed ≡ true) → Goes cluster (record cluster { links = set_in cluster.links r d cell })
cell_goes r d cell cluster keeps = record {
  failed = λ i j. set_kept (λ (row : List LinkCell). (slice_index_or row j no_link).link.failed) cluster.links r i
      (slice_set (links_of cluster r) d cell) []
      (set_kept (λ (c : LinkCell). c.link.failed) (links_of cluster r) d j cell no_link keeps);
  stage = stage_same cluster.control;
  clients = λ c n. same (client_left n (client_in cluster c));
  many = refl;
}

link_goes : (r d : ℕ) (f : LinkOf → LinkOf) (cluster : Cluster) → ((l : LinkOf) → l.failed ≡ true → (f l).failed ≡ true)
    → Goes cluster (on_link r d f cluster)
link_goes r d f cluster keeps =
    cell_goes r d (with_link f (link_in cluster r d)) cluster (keeps (link_in cluster r d).link)

-- all links of a recipient
row_kept : (f : LinkOf → LinkOf) (row : List LinkCell) (j : ℕ) → ((l : LinkOf) → l.failed ≡ true → (f l).failed ≡ true)
    → (slice_index_or row j no_link).link.failed ≡ true
    → (slice_index_or (map (with_link f) row) j no_link).link.failed ≡ true
row_kept f [] j keeps h = h
row_kept f (cell ∷ row) zero keeps h = keeps cell.link h
row_kept f (cell ∷ row) (suc j) keeps h = row_kept f row j keeps h

links_go : (r : ℕ) (f : LinkOf → LinkOf) (cluster : Cluster) → ((l : LinkOf) → l.failed ≡ true → (f l).failed ≡ true)
    → Goes cluster (on_links r f cluster)
links_go r f cluster keeps = record {
  failed = λ i j. set_kept (λ (row : List LinkCell). (slice_index_or row j no_link).link.failed) cluster.links r i
      (map (with_link f) (links_of cluster r)) [] (row_kept f (links_of cluster r) j keeps);
  stage = stage_same cluster.control;
  clients = λ c n. same (client_left n (client_in cluster c));
  many = refl;
}

-- the coordinator
control_goes : (f : Control → Control) (cluster : Cluster) → StageGoes cluster.control (f cluster.control)
    → Goes cluster (on_control f cluster)
control_goes f cluster h = record {
  failed = λ r d t. t;
  stage = h;
  clients = λ c n. same (client_left n (client_in cluster c));
  many = refl;
}

-- one client
client_goes : (c : ℕ) (f : ClientCell → ClientCell) (cluster : Cluster)
    → ((n : ℕ) → client_left n (f (client_in cluster c)) ≤ client_left n (client_in cluster c))
    → Goes cluster (on_client c f cluster)
client_goes c f cluster h = record {
  failed = λ r d t. t;
  stage = stage_same cluster.control;
  clients = λ k n. set_most (client_left n) cluster.clients c k (f (client_in cluster c)) no_client (h n);
  many = length-set cluster.clients c (f (client_in cluster c));
}

replied : (n k m : ℕ) → (n - suc k) + m ≤ (n - k) + m
replied n k m = omega arith

refreshed : (n m : ℕ) → n + 0 ≤ n + m
refreshed n m = omega arith

reply_goes : (c : ℕ) (r : Reply) (cluster : Cluster) → Goes cluster (client.with_reply c r cluster)
reply_goes c r cluster =
    let cell : ClientCell = client_in cluster c in
    client_goes c (λ (k : ClientCell). record k { replies = k.replies ++ r ∷ [] }) cluster
    (λ n. subst (λ (k : ℕ). (n - k) + maps_left cell.knows ≤ (n - length cell.replies) + maps_left cell.knows)
    (sym (length_more cell.replies r)) (replied n (length cell.replies) (maps_left cell.knows)))

map_goes : (c : ℕ) (cluster : Cluster) → Goes cluster (client.with_new_map c cluster)
map_goes c cluster =
    let cell : ClientCell = client_in cluster c in
    client_goes c (λ (k : ClientCell). record k { knows = New }) cluster
    (λ n. refreshed (n - length cell.replies) (maps_left cell.knows))

-- each row
did_goes : (stamp : Stamp) (doing : Doing) (cluster : Cluster) → Goes cluster (client.did stamp doing cluster)
did_goes stamp (adds s d) cluster = alike cluster _ refl refl refl
did_goes stamp (replaces s d t e) cluster = by (t == s)
  where
    by : (is : Bool) → Goes cluster
        (cond is (client.done_at stamp s (replaces s d t e) cluster) (client.moved stamp s d t e cluster))
    by true = alike cluster _ refl refl refl
    by false = alike cluster _ refl refl refl
did_goes stamp (removes s d) cluster = alike cluster _ refl refl refl
did_goes stamp (says reply) cluster = alike cluster _ refl refl refl

abort_goes : (c : ℕ) (cluster : Cluster) → Goes cluster (client.abort_asked c cluster)
abort_goes c cluster =
    let cause : Cause = Asked c (client.next_number cluster c) in
    goes_then cluster (on_control (unless_decided cause) cluster) _
    (control_goes (unless_decided cause) cluster (unless_goes cause cluster.control))
    (reply_goes c (client.abort_reply cluster.control.decision) (on_control (unless_decided cause) cluster))

answered_goes : (setup : Setup) (cluster : Cluster) (stamp : Stamp) (c : ℕ) (command : Command)
    → Goes cluster (client.answered setup cluster stamp c command)
answered_goes setup cluster stamp c command = by (is_abort command)
  where
    by : (t : Bool) → Goes cluster
        (cond t (client.abort_asked c cluster) (client.done setup cluster stamp c (doing_of setup cluster c command)))
    by true = abort_goes c cluster
    by false =
        let doing : Doing = doing_of setup cluster c command in
        goes_then cluster (client.did stamp doing cluster) _ (did_goes stamp doing cluster)
        (reply_goes c (reply_of doing) (client.did stamp doing cluster))

command_goes : (setup : Setup) (cluster : Cluster) (stamp : Stamp) (c : ℕ) → Goes cluster (client.change setup cluster stamp c)
command_goes setup cluster stamp c = by (next_command setup cluster c)
  where
    come : (command : Command) (coming : Coming) → Goes cluster (client.change_by setup cluster stamp c command coming)
    come command waits = alike cluster cluster refl refl refl
    come command refreshes = map_goes c cluster
    come command comes = answered_goes setup cluster stamp c command

    by : (next : Option Command) → Goes cluster (client.change_of setup cluster stamp c next)
    by None = alike cluster cluster refl refl refl
    by (Some command) = come command (coming setup cluster c command)

ended_goes : (s : ℕ) (cluster : Cluster) → Goes cluster (tell.ended s cluster)
ended_goes s cluster =
    goes_then cluster (tell.on_lanes s lane.emptied cluster) _ (alike cluster _ refl refl refl)
    (links_go s link.closed (tell.on_lanes s lane.emptied cluster) (λ l h. h))

message_goes : (stamp : Stamp) (s : ℕ) (message : Message) (cluster : Cluster) → Goes cluster (tell.told stamp s message cluster)
message_goes stamp s Prepare cluster = alike cluster _ refl refl refl
message_goes stamp s (Donate time) cluster =
    let lanes : Cluster = tell.on_lanes s (lane.with_started true) cluster in
    let links : Cluster = on_links s (λ l. link.started l time) lanes in
    goes_then cluster links _
    (goes_then cluster lanes links (alike cluster lanes refl refl refl) (links_go s (λ l. link.started l time) lanes (λ l h. h)))
    (alike links _ refl refl refl)
message_goes stamp s Block cluster = alike cluster _ refl refl refl
message_goes stamp s Install cluster =
    goes_then cluster (tell.ended s cluster) _ (ended_goes s cluster) (alike (tell.ended s cluster) _ refl refl refl)
message_goes stamp s Release cluster =
    goes_then cluster (tell.ended s cluster) _ (ended_goes s cluster) (alike (tell.ended s cluster) _ refl refl refl)

tell_goes : (stamp : Stamp) (cluster : Cluster) (s : ℕ) → Goes cluster (tell.change stamp cluster s)
tell_goes stamp cluster s = by (message_of cluster.control)
  where
    by : (message : Option Message) → Goes cluster (tell.told_if stamp s message cluster)
    by None = alike cluster cluster refl refl refl
    by (Some message) =
        let told : Cluster = tell.told stamp s message cluster in
        goes_then cluster told _ (message_goes stamp s message cluster)
        (control_goes (with_told s) told (told_goes s told.control))

apply_goes : (cluster : Cluster) (r d l : ℕ) (piece : Option Piece) → Goes cluster (apply.change cluster r d l piece)
apply_goes cluster r d l None = alike cluster cluster refl refl refl
apply_goes cluster r d l (Some piece) = alike cluster _ refl refl refl

again_goes : (cluster : Cluster) (r d l : ℕ) (piece : Option Piece) → Goes cluster (again.change cluster r d l piece)
again_goes cluster r d l None = alike cluster cluster refl refl refl
again_goes cluster r d l (Some piece) = by (is_at (lane_in cluster r l) piece)
  where
    by : (t : Bool) → Goes cluster (cond t (on_lane r l (lane.taken piece) cluster) cluster)
    by true = alike cluster _ refl refl refl
    by false = alike cluster cluster refl refl refl

kept_failed : (l : LinkOf) → l.failed ≡ true → (link.batch_kept l).failed ≡ true
kept_failed l h = by l.out
  where
    by : (o : Option Out) → (option_map_or (λ (out : Out). let k : LinkOf = record l { kept = link.kept_at l out; out = None } in k) o l).failed ≡ true
    by None = h
    by (Some out) = h

crash_back_goes : (cluster : Cluster) (r d : ℕ) → Goes cluster (crash.change cluster r d)
crash_back_goes cluster r d =
    let lanes : Cluster = with_lanes r (back d (lanes_of cluster r) (link_in cluster r d).link.kept.lanes) cluster in
    goes_then cluster lanes (on_link r d link.gone_back lanes) (alike cluster lanes refl refl refl)
    (link_goes r d link.gone_back lanes (λ l h. h))

report_row_goes : (cluster : Cluster) (r : ℕ) → Goes cluster (report.change cluster r)
report_row_goes cluster r =
    let note : Option Value = report.clash_in cluster.control.phase (lanes_of cluster r) in
    goes_then cluster (on_control (with_report r note) cluster) _
    (control_goes (with_report r note) cluster (report_goes r note cluster.control)) (alike _ _ refl refl refl)

fail_goes : (cluster : Cluster) (named : Option (ShardId × ShardId)) (cause : Cause) → Goes cluster (fail.change cluster named cause)
fail_goes cluster None cause = control_goes (unless_decided cause) cluster (unless_goes cause cluster.control)
fail_goes cluster (Some named) cause =
    let broken : Cluster = on_link named.0.0 named.1.0 link.failed cluster in
    goes_then cluster broken _ (link_goes named.0.0 named.1.0 link.failed cluster (λ l h. refl))
    (control_goes (unless_decided cause) broken (unless_goes cause broken.control))

module _ (setup : Setup) (stamp : Stamp) where
  pub row_goes : (cluster : Cluster) (event : Event) (piece : Option Piece) → Goes cluster (change setup stamp cluster event piece)
  unfolding change
  row_goes cluster (Client c) piece = command_goes setup cluster stamp c
  row_goes cluster Begin piece = control_goes begun cluster (begun_goes cluster.control)
  row_goes cluster (Tell s) piece = tell_goes stamp cluster s.0
  row_goes cluster (Retell s message) piece = alike cluster cluster refl refl refl
  row_goes cluster Advance piece = control_goes (advanced stamp.time) cluster (advanced_goes stamp.time cluster.control)
  row_goes cluster (Clone r d) piece =
      link_goes r.0 d.0 (λ l. link.with_cloned l (clone.got cluster r.0 d.0) (clone.are_last l (clone.got cluster r.0 d.0))) cluster (λ l h. h)
  row_goes cluster (Fetch r d) piece = link_goes r.0 d.0 (λ l. link.with_fetched l (fetch.got cluster r.0 d.0)) cluster (λ l h. h)
  row_goes cluster (Cut r d) piece = cell_goes r.0 d.0 (cut_at stamp.time (link_in cluster r.0 d.0)) cluster (λ h. h)
  row_goes cluster (Apply r d l) piece = apply_goes cluster r.0 d.0 l piece
  row_goes cluster (Again r d l position) piece = again_goes cluster r.0 d.0 l piece
  row_goes cluster (Record r d) piece = link_goes r.0 d.0 link.batch_kept cluster kept_failed
  row_goes cluster (Crash r d) piece = crash_back_goes cluster r.0 d.0
  row_goes cluster (Report r) piece = report_row_goes cluster r.0
  row_goes cluster (Fail named cause) piece = fail_goes cluster named cause

  counted_goes : (asked : Asks) (cluster : Cluster) → Goes cluster (counted setup asked cluster)
  counted_goes quiet cluster = alike cluster cluster refl refl refl
  counted_goes (commits Coordinator) cluster = control_goes with_crash cluster (crash_goes cluster.control)
  counted_goes (commits (Link r d)) cluster = alike cluster cluster refl refl refl
  counted_goes (commits (Lane r d l)) cluster = alike cluster cluster refl refl refl
  counted_goes (delivers who) cluster = alike cluster cluster refl refl refl

  wanting_goes : (event : Event) (cluster : Cluster) → Goes cluster (wanting setup event cluster)
  wanting_goes (Client c) cluster = reply_goes c reply.NoMemory cluster
  wanting_goes other cluster = alike cluster cluster refl refl refl

  pub met_goes : (cluster : Cluster) (event : Event) (piece : Option Piece) (met : Met)
      → Goes cluster (luck.change setup stamp cluster event piece met)
  met_goes cluster event piece Row = row_goes cluster event piece
  met_goes cluster event piece CrashedBefore = counted_goes (asks cluster event piece) cluster
  met_goes cluster event piece CrashedAfter =
      goes_then cluster (change setup stamp cluster event piece) _ (row_goes cluster event piece)
      (counted_goes (asks cluster event piece) (change setup stamp cluster event piece))
  met_goes cluster event piece Failed = alike cluster cluster refl refl refl
  met_goes cluster event piece Lost = alike cluster cluster refl refl refl
  met_goes cluster event piece NoMemory = wanting_goes event cluster
  met_goes cluster event piece NoMemoryInMove = wanting_goes event cluster

pub after_goes : (setup : Setup) (run : Run) (m : Moment) → Goes run.cluster (after setup run m).cluster
unfolding after
after_goes setup run m =
    goes_then run.cluster (luck.change setup m.made.stamp run.cluster m.made.event m.given.piece m.made.met) _
    (met_goes setup m.made.stamp run.cluster m.made.event m.given.piece m.made.met) (alike _ _ refl refl refl)

-- the supply, part by part
alive_most : (one other : Cluster) → Goes one other → (r d : ℕ) → alive other r d ≤ alive one r d
alive_most one other h r d = by (has_failed one r d) (has_failed other r d) (h.failed r d)
  where
    by : (a b : Bool) → (a ≡ true → b ≡ true) → cond b 0 1 ≤ cond a 0 1
    by true b keeps = subst (λ (t : Bool). cond t 0 1 ≤ 0) (sym (keeps refl)) (same 0)
    by false true keeps = omega arith
    by false false keeps = same 1

pub parts_most : (a b c d w x y z : ℕ) → w ≤ a → x ≤ b → y ≤ c → z ≤ d → w + (x + (y + z)) ≤ a + (b + (c + d))
parts_most a b c d w x y z h i j k = omega arith

module _ (setup : Setup) where
  pub links_most : (one other : Cluster) → Goes one other → links_left setup other ≤ links_left setup one
  links_most one other h =
      upto_most (length setup.shards) (λ r. upto (length setup.shards) (λ d. alive other r d))
      (λ r. upto (length setup.shards) (λ d. alive one r d))
      (λ r. upto_most (length setup.shards) (λ d. alive other r d) (λ d. alive one r d) (λ d. alive_most one other h r d))

  pub clients_most : (one other : Cluster) → Goes one other → clients_left setup other ≤ clients_left setup one
  clients_most one other h =
      upto_most (length setup.clients)
      (λ c. client_left (length (commands_of (slice_get setup.clients c))) (client_in other c))
      (λ c. client_left (length (commands_of (slice_get setup.clients c))) (client_in one c))
      (λ c. h.clients c (length (commands_of (slice_get setup.clients c))))

  pub after_calls : (run : Run) (m : Moment) → calls_left (after setup run m).lucks ≤ calls_left run.lucks
  unfolding after
  after_calls run m = called_most setup run.lucks (asked_by run m)

pub no_event_adds : NoEventAdds
no_event_adds setup run m =
    let to : Run = after setup run m in
    let goes : Goes run.cluster to.cluster = after_goes setup run m in
    parts_most (calls_left run.lucks) (links_left setup run.cluster) (phases_left run.cluster.control) (clients_left setup run.cluster)
    (calls_left to.lucks) (links_left setup to.cluster) (phases_left to.cluster.control) (clients_left setup to.cluster)
    (after_calls setup run m) (links_most setup run.cluster to.cluster goes)
    (no_more_phases run.cluster.control to.cluster.control goes.stage) (clients_most setup run.cluster to.cluster goes)

-- nor do several
pub no_events_add : (setup : Setup) (run : Run) (moments : List Moment)
    → supply setup (after_all setup run moments) ≤ supply setup run
unfolding after_all
no_events_add setup run [] = same (supply setup run)
no_events_add setup run (m ∷ moments) =
    at_most (supply setup run) (supply setup (after setup run m)) (supply setup (after_all setup (after setup run m) moments))
    (no_event_adds setup run m) (no_events_add setup (after setup run m) moments)
