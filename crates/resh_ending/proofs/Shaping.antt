-- Every event keeps the shape of a cluster, whatever it met.
use Rattle.std.proofs.Common.{◌≡◌, ℕ, zero, suc, ◌+◌, ◌==◌, Bool, true, false, cond, List, [], ◌∷◌, length, map, replicate, Option, Some, None, refl, sym, ap, ◌∙◌}
use Rattle.std.proofs.Math.Seq.{map-set_same}
use Rattle.std.specs.List.{range_with_len}
use Rattle.resh_value.specs.declared.value.ShardId.{ShardId}
use Rattle.resh_oplog.specs.declared.piece.Piece.{Piece}
use Rattle.resh_stamp.specs.declared.stamp.Stamp.{Stamp}
use Rattle.resh_progress.specs.declared.message.Message.{Message}
use Rattle.resh_progress.specs.declared.message.Message.TheVariants.{Prepare, Donate, Block, Install, Release}
use Rattle.resh_rules.specs.Pools.{empty_pool}
use Rattle.resh_lane.specs.Lanes as lane
use Rattle.resh_lane.specs.Lanes.{LaneOf, number_of}
use Rattle.resh_fetcher.specs.Links as link
use Rattle.resh_fetcher.specs.Links.{LinkOf}
use Rattle.resh_coord.specs.Control.{message_of}
use Rattle.resh_coord.specs.declared.cause.Cause.{Cause}
use Rattle.resh_command.specs.declared.command.Command.{Command}
use Rattle.resh_bag.specs.Answer.{Doing, adds, replaces, removes, says}
use Rattle.resh_model.specs.Orders.{is_abort}
use Rattle.resh_setup.specs.declared.event.Event.{Event}
use Rattle.resh_setup.specs.declared.event.Event.TheVariants.{Client, Begin, Tell, Retell, Advance, Clone, Fetch, Cut, Apply, Again, Record, Crash, Report, Fail}
use Rattle.resh_setup.specs.declared.plan.Who.TheVariants.{Coordinator, Link, Lane}
use Rattle.resh_setup.specs.declared.setup.Setup.{Setup}
use Rattle.resh_setup.specs.declared.trace.Met.TheVariants.{Row, CrashedBefore, CrashedAfter, Failed, Lost, NoMemory, NoMemoryInMove}
use Rattle.resh_cells.specs.Cells.{lane_in, lanes_of, link_in, links_of, no_lane, on_lane, on_link, on_links, set_in, with_lanes, with_link}
use Rattle.resh_cells.specs.declared.cluster.Cluster.{Cluster}
use Rattle.resh_cells.specs.declared.cluster.LinkCell.{LinkCell}
use Rattle.resh_events.specs.Luck.{Asks, asks, quiet, commits, delivers, counted, wanting}
use Rattle.resh_events.specs.Opening.{opening_lane, opening_link}
use Rattle.resh_events.specs.Table.{change}
use Rattle.resh_events.specs.Targets.{doing_of, next_command}
use Rattle.resh_events.specs.rows.Again as again
use Rattle.resh_events.specs.rows.Apply as apply
use Rattle.resh_events.specs.rows.Apply.{is_at}
use Rattle.resh_events.specs.rows.Client as client
use Rattle.resh_events.specs.rows.Client.{Coming, coming, waits, refreshes, comes}
use Rattle.resh_events.specs.rows.Clone as clone
use Rattle.resh_events.specs.rows.Crash as crash
use Rattle.resh_events.specs.rows.Crash.{back}
use Rattle.resh_events.specs.rows.Cut.{cut_at}
use Rattle.resh_events.specs.rows.Fail as fail
use Rattle.resh_events.specs.rows.Fetch as fetch
use Rattle.resh_events.specs.rows.Tell as tell
use Rattle.resh_keeping.proofs.Places.{length-each, length-set}
use Rattle.resh_ending.proofs.Places.{length-map, length-replicate}
use Rattle.resh_ending.specs.Shapes.{ClocksKeep, IsShaped, Keeps, Opens, lane_shape, link_shape, positions}

map-replicate : {X Y : Type 0} (f : X → Y) (x : X) (n : ℕ) → map f (replicate n x) ≡ replicate n (f x)
map-replicate f x zero = refl
map-replicate f x (suc n) = ap (λ t. f x ∷ t) (map-replicate f x n)

-- of values by number, each of which has one size
sizes : {X Y : Type 0} (g : X → Y) (f : ℕ → X) (y : Y) (from n : ℕ) → ((k : ℕ) → g (f k) ≡ y)
    → map g (map f (range_with_len from n)) ≡ replicate n y
sizes g f y from zero all = refl
sizes g f y from (suc n) all = ap (λ h. h ∷ map g (map f (range_with_len (from + 1) n))) (all from)
    ∙ ap (λ t. y ∷ t) (sizes g f y (from + 1) n all)

-- lanes whose numbers of positions stay
positions_map : (f : LaneOf → LaneOf) (lanes : List LaneOf) → ((l : LaneOf) → length (f l).at ≡ length l.at)
    → positions (map f lanes) ≡ positions lanes
positions_map f [] same = refl
positions_map f (l ∷ ls) same = ap (λ n. n ∷ positions (map f ls)) (same l) ∙ ap (λ t. length l.at ∷ t) (positions_map f ls same)

positions_back : (d : ℕ) (lanes : List LaneOf) (numbers : List ℕ) → positions (back d lanes numbers) ≡ positions lanes
positions_back d [] numbers = refl
positions_back d (l ∷ ls) [] = ap (λ t. length l.at ∷ t) (positions_back d ls [])
positions_back d (l ∷ ls) (number ∷ numbers) =
    ap (λ n. n ∷ positions (back d ls numbers)) (length-set l.at d _)
    ∙ ap (λ t. length l.at ∷ t) (positions_back d ls numbers)

links_set : (cluster : Cluster) (r d : ℕ) (cell : LinkCell)
    → map (λ (links : List LinkCell). length links) (set_in cluster.links r d cell) ≡ link_shape cluster
links_set cluster r d cell =
    map-set_same (λ (links : List LinkCell). length links) cluster.links r _ [] (length-set (links_of cluster r) d cell)

module _ (setup : Setup) where
  same_shape : (one other : Cluster) → other.lanes ≡ one.lanes → other.links ≡ one.links → IsShaped setup one → IsShaped setup other
  same_shape one other e q is = record {
    lanes = ap (map positions) e ∙ is.lanes;
    links = ap (map (λ (links : List LinkCell). length links)) q ∙ is.links;
  }

  link_keeps : (r d : ℕ) (f : LinkOf → LinkOf) (cluster : Cluster) → IsShaped setup cluster → IsShaped setup (on_link r d f cluster)
  link_keeps r d f cluster is =
      record { lanes = is.lanes; links = links_set cluster r d (with_link f (link_in cluster r d)) ∙ is.links }

  cut_keeps : (r d time : ℕ) (cluster : Cluster) → IsShaped setup cluster
      → IsShaped setup (record cluster { links = set_in cluster.links r d (cut_at time (link_in cluster r d)) })
  cut_keeps r d time cluster is =
      record { lanes = is.lanes; links = links_set cluster r d (cut_at time (link_in cluster r d)) ∙ is.links }

  links_keep : (r : ℕ) (f : LinkOf → LinkOf) (cluster : Cluster) → IsShaped setup cluster → IsShaped setup (on_links r f cluster)
  links_keep r f cluster is = record {
    lanes = is.lanes;
    links = map-set_same (λ (links : List LinkCell). length links) cluster.links r _ [] (length-map (with_link f) (links_of cluster r)) ∙ is.links;
  }

  lanes_keep : (r : ℕ) (lanes : List LaneOf) (cluster : Cluster) → positions lanes ≡ positions (lanes_of cluster r)
      → IsShaped setup cluster → IsShaped setup (with_lanes r lanes cluster)
  lanes_keep r lanes cluster same is =
      record { lanes = map-set_same positions cluster.lanes r lanes [] same ∙ is.lanes; links = is.links }

  lane_keeps : (r l : ℕ) (f : LaneOf → LaneOf) (cluster : Cluster)
      → length (f (lane_in cluster r l)).at ≡ length (lane_in cluster r l).at
      → IsShaped setup cluster → IsShaped setup (on_lane r l f cluster)
  lane_keeps r l f cluster same is = record {
    lanes = map-set_same positions cluster.lanes r _ []
        (map-set_same (λ (lane : LaneOf). length lane.at) (lanes_of cluster r) l (f (lane_in cluster r l)) no_lane same) ∙ is.lanes;
    links = is.links;
  }

  did_keeps : (stamp : Stamp) (doing : Doing) (cluster : Cluster) → IsShaped setup cluster
      → IsShaped setup (client.did stamp doing cluster)
  did_keeps stamp (adds s d) cluster is = same_shape cluster _ refl refl is
  did_keeps stamp (replaces s d t e) cluster is = by (t == s)
    where
      by : (same : Bool) → IsShaped setup
          (cond same (client.done_at stamp s (replaces s d t e) cluster) (client.moved stamp s d t e cluster))
      by true = same_shape cluster _ refl refl is
      by false = same_shape cluster _ refl refl is
  did_keeps stamp (removes s d) cluster is = same_shape cluster _ refl refl is
  did_keeps stamp (says reply) cluster is = is

  answered_keeps : (cluster : Cluster) (stamp : Stamp) (c : ℕ) (command : Command) → IsShaped setup cluster
      → IsShaped setup (client.answered setup cluster stamp c command)
  answered_keeps cluster stamp c command is = by (is_abort command)
    where
      by : (t : Bool) → IsShaped setup
          (cond t (client.abort_asked c cluster) (client.done setup cluster stamp c (doing_of setup cluster c command)))
      by true = same_shape cluster _ refl refl is
      by false = same_shape (client.did stamp (doing_of setup cluster c command) cluster) _ refl refl
          (did_keeps stamp (doing_of setup cluster c command) cluster is)

  client_keeps : (cluster : Cluster) (stamp : Stamp) (c : ℕ) → IsShaped setup cluster
      → IsShaped setup (client.change setup cluster stamp c)
  client_keeps cluster stamp c is = by (next_command setup cluster c)
    where
      come : (command : Command) (coming : Coming)
          → IsShaped setup (client.change_by setup cluster stamp c command coming)
      come command waits = is
      come command refreshes = same_shape cluster _ refl refl is
      come command comes = answered_keeps cluster stamp c command is

      by : (next : Option Command) → IsShaped setup (client.change_of setup cluster stamp c next)
      by None = is
      by (Some command) = come command (coming setup cluster c command)

  ended_keeps : (s : ℕ) (cluster : Cluster) → IsShaped setup cluster → IsShaped setup (tell.ended s cluster)
  ended_keeps s cluster is =
      links_keep s link.closed (tell.on_lanes s lane.emptied cluster)
      (lanes_keep s _ cluster (positions_map lane.emptied (lanes_of cluster s) (λ l. refl)) is)

  told_keeps : (stamp : Stamp) (s : ℕ) (message : Message) (cluster : Cluster) → IsShaped setup cluster
      → IsShaped setup (tell.told stamp s message cluster)
  told_keeps stamp s Prepare cluster is = same_shape cluster _ refl refl is
  told_keeps stamp s (Donate time) cluster is =
      same_shape (on_links s (λ l. link.started l time) (tell.on_lanes s (lane.with_started true) cluster)) _ refl refl
      (links_keep s (λ l. link.started l time) (tell.on_lanes s (lane.with_started true) cluster)
      (lanes_keep s _ cluster (positions_map (lane.with_started true) (lanes_of cluster s) (λ l. refl)) is))
  told_keeps stamp s Block cluster is = same_shape cluster _ refl refl is
  told_keeps stamp s Install cluster is = same_shape (tell.ended s cluster) _ refl refl (ended_keeps s cluster is)
  told_keeps stamp s Release cluster is = same_shape (tell.ended s cluster) _ refl refl (ended_keeps s cluster is)

  tell_keeps : (stamp : Stamp) (cluster : Cluster) (s : ℕ) → IsShaped setup cluster
      → IsShaped setup (tell.change stamp cluster s)
  tell_keeps stamp cluster s is = by (message_of cluster.control)
    where
      by : (message : Option Message) → IsShaped setup (tell.told_if stamp s message cluster)
      by None = is
      by (Some message) = same_shape (tell.told stamp s message cluster) _ refl refl (told_keeps stamp s message cluster is)

  taken_keeps : (r l : ℕ) (piece : Piece) (cluster : Cluster) → IsShaped setup cluster
      → IsShaped setup (on_lane r l (lane.taken piece) cluster)
  taken_keeps r l piece cluster is =
      lane_keeps r l (lane.taken piece) cluster (length-set (lane_in cluster r l).at piece.donor.0 _) is

  apply_keeps : (cluster : Cluster) (r d l : ℕ) (piece : Option Piece) → IsShaped setup cluster
      → IsShaped setup (apply.change cluster r d l piece)
  apply_keeps cluster r d l None is = is
  apply_keeps cluster r d l (Some piece) is = taken_keeps r l piece cluster is

  again_keeps : (cluster : Cluster) (r d l : ℕ) (piece : Option Piece) → IsShaped setup cluster
      → IsShaped setup (again.change cluster r d l piece)
  again_keeps cluster r d l None is = is
  again_keeps cluster r d l (Some piece) is = by (is_at (lane_in cluster r l) piece)
    where
      by : (t : Bool) → IsShaped setup (cond t (on_lane r l (lane.taken piece) cluster) cluster)
      by true = taken_keeps r l piece cluster is
      by false = is

  crash_keeps : (cluster : Cluster) (r d : ℕ) → IsShaped setup cluster → IsShaped setup (crash.change cluster r d)
  crash_keeps cluster r d is =
      link_keeps r d link.gone_back _
      (lanes_keep r _ cluster (positions_back d (lanes_of cluster r) (link_in cluster r d).link.kept.lanes) is)

  fail_keeps : (cluster : Cluster) (named : Option (ShardId × ShardId)) (cause : Cause) → IsShaped setup cluster
      → IsShaped setup (fail.change cluster named cause)
  fail_keeps cluster None cause is = same_shape cluster _ refl refl is
  fail_keeps cluster (Some named) cause is =
      same_shape (on_link named.0.0 named.1.0 link.failed cluster) _ refl refl (link_keeps named.0.0 named.1.0 link.failed cluster is)

module _ (setup : Setup) (stamp : Stamp) where
  row_keeps : (cluster : Cluster) (event : Event) (piece : Option Piece) → IsShaped setup cluster
      → IsShaped setup (change setup stamp cluster event piece)
  unfolding change
  row_keeps cluster (Client c) piece is = client_keeps setup cluster stamp c is
  row_keeps cluster Begin piece is = same_shape setup cluster _ refl refl is
  row_keeps cluster (Tell s) piece is = tell_keeps setup stamp cluster s.0 is
  row_keeps cluster (Retell s message) piece is = is
  row_keeps cluster Advance piece is = same_shape setup cluster _ refl refl is
  row_keeps cluster (Clone r d) piece is =
      link_keeps setup r.0 d.0 (λ l. link.with_cloned l (clone.got cluster r.0 d.0) (clone.are_last l (clone.got cluster r.0 d.0))) cluster is
  row_keeps cluster (Fetch r d) piece is =
      link_keeps setup r.0 d.0 (λ l. link.with_fetched l (fetch.got cluster r.0 d.0)) cluster is
  row_keeps cluster (Cut r d) piece is = cut_keeps setup r.0 d.0 stamp.time cluster is
  row_keeps cluster (Apply r d l) piece is = apply_keeps setup cluster r.0 d.0 l piece is
  row_keeps cluster (Again r d l position) piece is = again_keeps setup cluster r.0 d.0 l piece is
  row_keeps cluster (Record r d) piece is = link_keeps setup r.0 d.0 link.batch_kept cluster is
  row_keeps cluster (Crash r d) piece is = crash_keeps setup cluster r.0 d.0 is
  row_keeps cluster (Report r) piece is = same_shape setup cluster _ refl refl is
  row_keeps cluster (Fail named cause) piece is = fail_keeps setup cluster named cause is

  counted_keeps : (asked : Asks) (cluster : Cluster) → IsShaped setup cluster
      → IsShaped setup (counted setup asked cluster)
  counted_keeps quiet cluster is = is
  counted_keeps (commits Coordinator) cluster is = same_shape setup cluster _ refl refl is
  counted_keeps (commits (Link r d)) cluster is = is
  counted_keeps (commits (Lane r d l)) cluster is = is
  counted_keeps (delivers who) cluster is = is

  wanting_keeps : (event : Event) (cluster : Cluster) → IsShaped setup cluster
      → IsShaped setup (wanting setup event cluster)
  wanting_keeps (Client c) cluster is = same_shape setup cluster _ refl refl is
  wanting_keeps other cluster is = is

pub shapes_keep : Keeps
shapes_keep setup stamp cluster event piece Row is = row_keeps setup stamp cluster event piece is
shapes_keep setup stamp cluster event piece CrashedBefore is = counted_keeps setup stamp (asks cluster event piece) cluster is
shapes_keep setup stamp cluster event piece CrashedAfter is =
    counted_keeps setup stamp (asks cluster event piece) (change setup stamp cluster event piece)
    (row_keeps setup stamp cluster event piece is)
shapes_keep setup stamp cluster event piece Failed is = is
shapes_keep setup stamp cluster event piece Lost is = is
shapes_keep setup stamp cluster event piece NoMemory is = wanting_keeps setup stamp event cluster is
shapes_keep setup stamp cluster event piece NoMemoryInMove is = wanting_keeps setup stamp event cluster is

pub clocks_keep : ClocksKeep
clocks_keep setup time cells cluster is = same_shape setup cluster _ refl refl is

pub opens : Opens
opens setup =
    let shards : ℕ = length setup.shards in
    record {
      lanes = map-replicate positions (replicate setup.lanes (opening_lane setup)) shards
          ∙ ap (λ (t : List ℕ). replicate shards t) (map-replicate (λ (l : LaneOf). length l.at) (opening_lane setup) setup.lanes
          ∙ ap (λ (n : ℕ). replicate setup.lanes n) (length-replicate 0 shards));
      links = sizes (λ (links : List LinkCell). length links) (λ r. map (opening_link setup r) (range_with_len 0 shards)) shards 0 shards
          (λ r. length-each (opening_link setup r) 0 shards);
    }
