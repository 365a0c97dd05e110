-- Each row keeps a cluster of its setup.
use Rattle.std.proofs.Common.{◌≡◌, ◌<◌, ℕ, ◌==◌, Bool, true, false, cond, List, length, Option, Some, None, refl, sym, ap, subst, ◌∙◌, slice_index_or}
use Rattle.resh_value.specs.Lookup.{id_of}
use Rattle.resh_value.specs.declared.value.ShardId.{ShardId}
use Rattle.resh_oplog.specs.declared.piece.Piece.{Piece}
use Rattle.resh_stamp.specs.declared.stamp.Stamp.{Stamp}
use Rattle.resh_progress.specs.declared.message.Message.{Message}
use Rattle.resh_progress.specs.declared.message.Message.TheVariants.{Prepare, Donate, Block, Install, Release}
use Rattle.resh_coord.specs.Control.{message_of}
use Rattle.resh_coord.specs.declared.cause.Cause.{Cause}
use Rattle.resh_command.specs.declared.command.Command.{Command}
use Rattle.resh_bag.specs.Answer.{Doing, adds, replaces, removes, says}
use Rattle.resh_bag.specs.Bag.{Document}
use Rattle.resh_shard.specs.Decisions.{done}
use Rattle.resh_shard.specs.Shards.{blocked_at, prepared, pruned_to, taken_in, taken_out}
use Rattle.resh_model.specs.Orders.{is_abort}
use Rattle.resh_setup.specs.declared.setup.Setup.{Setup}
use Rattle.resh_cells.specs.Belonging.{IsClusterOf, IsShardOf}
use Rattle.resh_cells.specs.Cells.{lane_in, lanes_of, no_shard, on_links, on_shard, shard_in, with_shard}
use Rattle.resh_cells.specs.declared.cluster.Cluster.{Cluster}
use Rattle.resh_cells.specs.declared.cluster.ShardCell.{ShardCell}
use Rattle.resh_events.specs.Targets.{doing_of, next_command}
use Rattle.resh_events.specs.rows.Again as again
use Rattle.resh_events.specs.rows.Apply as apply
use Rattle.resh_events.specs.rows.Apply.{is_at}
use Rattle.resh_events.specs.rows.Client as client
use Rattle.resh_events.specs.rows.Client.{Coming, coming, waits, refreshes, comes}
use Rattle.resh_events.specs.rows.Fail as fail
use Rattle.resh_events.specs.rows.Report as report
use Rattle.resh_events.specs.rows.Tell as tell
use Rattle.resh_fetcher.specs.Links as link
use Rattle.resh_lane.specs.Lanes as lane
use Rattle.resh_keeping.proofs.Places.{length-set, set_all}
use Rattle.resh_keeping.proofs.Shards.{done_keeps, taken_in_keeps, taken_out_keeps}

module _ (setup : Setup) where
  -- a cluster with the same shards
  pub same_shards : (one other : Cluster) → other.shards ≡ one.shards → IsClusterOf setup one → IsClusterOf setup other
  same_shards one other e is = record {
    count = ap length e ∙ is.count;
    each = λ k lt. subst (λ (l : List ShardCell). IsShardOf setup k (slice_index_or l k no_shard).shard) (sym e)
        (is.each k (subst (λ (l : List ShardCell). k < length l) e lt));
  }

  -- one shard changed that keeps its number, its maps and its limit
  pub on_shard_keeps : (s : ℕ) (f : ShardCell → ShardCell) (cluster : Cluster)
      → ((cell : ShardCell) → IsShardOf setup s cell.shard → IsShardOf setup s (f cell).shard)
      → IsClusterOf setup cluster → IsClusterOf setup (on_shard s f cluster)
  on_shard_keeps s f cluster keeps is =
      let same : length (on_shard s f cluster).shards ≡ length cluster.shards = length-set cluster.shards s (f (shard_in cluster s)) in
      record {
        count = same ∙ is.count;
        each = λ k lt. set_all (λ n (cell : ShardCell). IsShardOf setup n cell.shard) cluster.shards s (f (shard_in cluster s)) no_shard
            (λ l. keeps (shard_in cluster s) (is.each s l)) is.each k (subst (λ n. k < n) same lt);
      }

  done_at_keeps : (stamp : Stamp) (s : ℕ) (doing : Doing) (cluster : Cluster) → IsClusterOf setup cluster
      → IsClusterOf setup (client.done_at stamp s doing cluster)
  done_at_keeps stamp s doing cluster =
      on_shard_keeps s (with_shard (done stamp doing)) cluster (λ cell. done_keeps setup s stamp doing cell.shard)

  moved_keeps : (stamp : Stamp) (from : ℕ) (before : Document) (to : ℕ) (after : Document) (cluster : Cluster)
      → IsClusterOf setup cluster → IsClusterOf setup (client.moved stamp from before to after cluster)
  moved_keeps stamp from before to after cluster is =
      on_shard_keeps from (with_shard (taken_out stamp (id_of before))) (on_shard to (with_shard (taken_in stamp after)) cluster)
      (λ cell. taken_out_keeps setup from stamp (id_of before) cell.shard)
      (on_shard_keeps to (with_shard (taken_in stamp after)) cluster (λ cell. taken_in_keeps setup to stamp after cell.shard) is)

  did_keeps : (stamp : Stamp) (doing : Doing) (cluster : Cluster) → IsClusterOf setup cluster
      → IsClusterOf setup (client.did stamp doing cluster)
  did_keeps stamp (adds s d) cluster is = done_at_keeps stamp s (adds s d) cluster is
  did_keeps stamp (replaces s d t e) cluster is = by (t == s)
    where
      by : (same : Bool) → IsClusterOf setup
          (cond same (client.done_at stamp s (replaces s d t e) cluster) (client.moved stamp s d t e cluster))
      by true = done_at_keeps stamp s (replaces s d t e) cluster is
      by false = moved_keeps stamp s d t e cluster is
  did_keeps stamp (removes s d) cluster is = done_at_keeps stamp s (removes s d) cluster is
  did_keeps stamp (says reply) cluster is = is

  done_keeps_all : (cluster : Cluster) (stamp : Stamp) (c : ℕ) (doing : Doing) → IsClusterOf setup cluster
      → IsClusterOf setup (client.done setup cluster stamp c doing)
  done_keeps_all cluster stamp c doing is =
      same_shards (client.did stamp doing cluster) _ refl (did_keeps stamp doing cluster is)

  answered_keeps : (cluster : Cluster) (stamp : Stamp) (c : ℕ) (command : Command) → IsClusterOf setup cluster
      → IsClusterOf setup (client.answered setup cluster stamp c command)
  answered_keeps cluster stamp c command is = by (is_abort command)
    where
      by : (t : Bool) → IsClusterOf setup
          (cond t (client.abort_asked c cluster) (client.done setup cluster stamp c (doing_of setup cluster c command)))
      by true = same_shards cluster _ refl is
      by false = done_keeps_all cluster stamp c (doing_of setup cluster c command) is

  pub client_keeps : (cluster : Cluster) (stamp : Stamp) (c : ℕ) → IsClusterOf setup cluster
      → IsClusterOf setup (client.change setup cluster stamp c)
  client_keeps cluster stamp c is = by (next_command setup cluster c)
    where
      come : (command : Command) (coming : Coming)
          → IsClusterOf setup (client.change_by setup cluster stamp c command coming)
      come command waits = is
      come command refreshes = same_shards cluster _ refl is
      come command comes = answered_keeps cluster stamp c command is

      by : (next : Option Command) → IsClusterOf setup (client.change_of setup cluster stamp c next)
      by None = is
      by (Some command) = come command (coming setup cluster c command)

  told_keeps : (stamp : Stamp) (s : ℕ) (message : Message) (cluster : Cluster) → IsClusterOf setup cluster
      → IsClusterOf setup (tell.told stamp s message cluster)
  told_keeps stamp s Prepare cluster is =
      on_shard_keeps s (λ cell. with_shard prepared (tell.on_donor Prepare cell)) cluster
      (λ cell of. record { number = of.number; old_map = of.old_map; new_map = of.new_map; limit = of.limit }) is
  told_keeps stamp s (Donate time) cluster is =
      on_shard_keeps s (λ cell. with_shard (pruned_to time) (tell.on_both (Donate time) cell)) (on_links s (λ l. link.started l time) (tell.on_lanes s (lane.with_started true) cluster))
      (λ cell of. record { number = of.number; old_map = of.old_map; new_map = of.new_map; limit = of.limit })
      (same_shards cluster _ refl is)
  told_keeps stamp s Block cluster is =
      on_shard_keeps s (λ cell. with_shard (blocked_at stamp) (tell.on_donor Block cell)) cluster
      (λ cell of. record { number = of.number; old_map = of.old_map; new_map = of.new_map; limit = of.limit }) is
  told_keeps stamp s Install cluster is =
      on_shard_keeps s (λ cell. with_shard (tell.with_outputs stamp.time (tell.outputs (lanes_of cluster s))) (tell.on_both Install cell)) (tell.ended s cluster)
      (λ cell of. record { number = of.number; old_map = of.old_map; new_map = of.new_map; limit = of.limit })
      (same_shards cluster _ refl is)
  told_keeps stamp s Release cluster is =
      on_shard_keeps s (λ cell. with_shard (tell.with_old_map stamp.time) (tell.on_both Release cell)) (tell.ended s cluster)
      (λ cell of. record { number = of.number; old_map = of.old_map; new_map = of.new_map; limit = of.limit })
      (same_shards cluster _ refl is)

  pub tell_keeps : (stamp : Stamp) (cluster : Cluster) (s : ℕ) → IsClusterOf setup cluster
      → IsClusterOf setup (tell.change stamp cluster s)
  tell_keeps stamp cluster s is = by (message_of cluster.control)
    where
      by : (message : Option Message) → IsClusterOf setup (tell.told_if stamp s message cluster)
      by None = is
      by (Some message) = same_shards (tell.told stamp s message cluster) _ refl (told_keeps stamp s message cluster is)

  pub report_keeps : (cluster : Cluster) (r : ℕ) → IsClusterOf setup cluster → IsClusterOf setup (report.change cluster r)
  report_keeps cluster r is =
      same_shards (on_shard r (λ cell. record cell { recipient = report.moved_on cluster.control.phase cell.recipient }) cluster) _
      refl (on_shard_keeps r (λ cell. record cell { recipient = report.moved_on cluster.control.phase cell.recipient }) cluster (λ cell of. of) is)

  pub apply_keeps : (cluster : Cluster) (r d l : ℕ) (piece : Option Piece) → IsClusterOf setup cluster
      → IsClusterOf setup (apply.change cluster r d l piece)
  apply_keeps cluster r d l None is = is
  apply_keeps cluster r d l (Some piece) is = same_shards cluster _ refl is

  pub again_keeps : (cluster : Cluster) (r d l : ℕ) (piece : Option Piece) → IsClusterOf setup cluster
      → IsClusterOf setup (again.change cluster r d l piece)
  again_keeps cluster r d l None is = is
  again_keeps cluster r d l (Some piece) is = by (is_at (lane_in cluster r l) piece)
    where
      by : (t : Bool) → IsClusterOf setup (cond t (apply.change cluster r d l (Some piece)) cluster)
      by true = same_shards cluster _ refl is
      by false = is

  pub fail_keeps : (cluster : Cluster) (named : Option (ShardId × ShardId)) (cause : Cause) → IsClusterOf setup cluster
      → IsClusterOf setup (fail.change cluster named cause)
  fail_keeps cluster None cause is = same_shards cluster _ refl is
  fail_keeps cluster (Some named) cause is = same_shards cluster _ refl is
