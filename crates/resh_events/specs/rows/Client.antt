-- A client asks its next command: it waits for a shard that is blocked, hears of the other map, or is answered.
use Rattle.std.specs.Prelude.{ℕ, ◌+◌, ◌==◌, Bool, cond, not, List, [], ◌∷◌, ◌++◌, length, Option, Some, None, is_some}
use Rattle.resh_value.specs.Lookup.{id_of}
use Rattle.resh_stamp.specs.declared.stamp.Stamp.{Stamp}
use Rattle.resh_coord.specs.Control.{unless_decided}
use Rattle.resh_coord.specs.declared.cause.Cause.TheVariants.{Asked}
use Rattle.resh_coord.specs.declared.cause.End.{End}
use Rattle.resh_command.specs.declared.command.Command.{Command}
use Rattle.resh_command.specs.declared.reply.Reply.{Reply}
use Rattle.resh_command.specs.declared.reply.Reply.TheVariants.{AbortAccepted, AbortTooLate}
use Rattle.resh_bag.specs.Answer.{Doing, adds, replaces, removes, says, reply_of}
use Rattle.resh_bag.specs.Bag.{Document}
use Rattle.resh_shard.specs.Decisions.{done as done_on}
use Rattle.resh_shard.specs.Shards.{taken_in, taken_out}
use Rattle.resh_shard.specs.declared.act.Which.TheVariants.{New}
use Rattle.resh_model.specs.Orders.{is_abort}
use Rattle.resh_setup.specs.declared.setup.Setup.{Setup}
use Rattle.resh_cells.specs.Cells.{client_in, on_client, on_control, on_shard, with_shard}
use Rattle.resh_cells.specs.declared.cluster.Cluster.{Cluster}
use Rattle.resh_cells.specs.declared.cell.Cell.{Cell}
use Rattle.resh_cells.specs.declared.cell.Cell.TheVariants as named
use Rattle.resh_events.specs.Targets.{all_at, all_targets, doing_of, has_map, is_free, next_command, shard_cells}
use Rattle.resh_setup.specs.declared.seen.Seen.{Seen}
use Rattle.resh_setup.specs.declared.seen.Seen.TheVariants.{Idle, Blocked, Refreshed, Command as Answered}

-- what comes of a command: a target is blocked, or serves under another map than the client knows, or it is answered
pub data Coming : Type 0 where
  waits : Coming
  refreshes : Coming
  comes : Coming

abbrev pub with_reply : ℕ → Reply → Cluster → Cluster
with_reply c reply cluster = on_client c (λ client. record client { replies = client.replies ++ reply ∷ [] }) cluster

abbrev pub with_new_map : ℕ → Cluster → Cluster
with_new_map c cluster = on_client c (λ client. record client { knows = New }) cluster

-- the number of a client's next command, from 1
abbrev pub next_number : Cluster → ℕ → ℕ
next_number cluster c = length (client_in cluster c).replies + 1

-- the shards after what a command does: a document that moves is taken in where it belongs and taken out where it stood
abbrev pub moved : Stamp → ℕ → Document → ℕ → Document → Cluster → Cluster
moved stamp from before to after cluster =
    on_shard from (with_shard (taken_out stamp (id_of before)))
    (on_shard to (with_shard (taken_in stamp after)) cluster)

abbrev pub done_at : Stamp → ℕ → Doing → Cluster → Cluster
done_at stamp s doing cluster = on_shard s (with_shard (done_on stamp doing)) cluster

abbrev pub did : Stamp → Doing → Cluster → Cluster
did stamp (adds s d) cluster = done_at stamp s (adds s d) cluster
did stamp (replaces s d t e) cluster =
    cond (t == s) (done_at stamp s (replaces s d t e) cluster) (moved stamp s d t e cluster)
did stamp (removes s d) cluster = done_at stamp s (removes s d) cluster
did stamp (says reply) cluster = cluster

-- an abort is accepted where nothing is decided
abbrev pub abort_reply : Option End → Reply
abort_reply None = AbortAccepted
abort_reply (Some end) = AbortTooLate

abbrev pub abort_asked : ℕ → Cluster → Cluster
abort_asked c cluster =
    with_reply c (abort_reply cluster.control.decision)
    (on_control (unless_decided (Asked c (next_number cluster c))) cluster)

module _ (setup : Setup) (cluster : Cluster) where
  abbrev pub coming_to : ℕ → List ℕ → Coming
  coming_to c shards =
      cond (not (all_at cluster is_free shards)) waits
      (cond (not (all_at cluster (has_map (client_in cluster c).knows) shards)) refreshes comes)

  -- an abort is for no shard, so it waits for none
  abbrev pub coming : ℕ → Command → Coming
  coming c command = coming_to c (all_targets setup cluster c command)

  abbrev pub may : ℕ → Bool
  may c = is_some (next_command setup cluster c)

  abbrev pub done : Stamp → ℕ → Doing → Cluster
  done stamp c doing = with_reply c (reply_of doing) (did stamp doing cluster)

  abbrev pub answered : Stamp → ℕ → Command → Cluster
  answered stamp c command =
      cond (is_abort command) (abort_asked c cluster) (done stamp c (doing_of setup cluster c command))

  abbrev pub change_by : Stamp → ℕ → Command → Coming → Cluster
  change_by stamp c command waits = cluster
  change_by stamp c command refreshes = with_new_map c cluster
  change_by stamp c command comes = answered stamp c command

  abbrev pub change_of : Stamp → ℕ → Option Command → Cluster
  change_of stamp c None = cluster
  change_of stamp c (Some command) = change_by stamp c command (coming c command)

  abbrev pub change : Stamp → ℕ → Cluster
  change stamp c = change_of stamp c (next_command setup cluster c)

  abbrev pub seen_by : ℕ → Coming → Seen
  seen_by c waits = Blocked
  seen_by c refreshes = Refreshed
  seen_by c comes = Answered (next_number cluster c)

  abbrev pub seen_of : ℕ → Option Command → Seen
  seen_of c None = Idle
  seen_of c (Some command) = seen_by c (coming c command)

  abbrev pub seen : ℕ → Seen
  seen c = seen_of c (next_command setup cluster c)

  -- the coordinator for an abort, else the targets; and the client
  abbrev pub cells_for : ℕ → Command → List ℕ → List Cell
  cells_for c command shards =
      cond (is_abort command) (named.Coordinator ∷ named.Client c ∷ []) (shard_cells setup shards ++ named.Client c ∷ [])

  abbrev pub cells_of : ℕ → Option Command → List Cell
  cells_of c None = named.Client c ∷ []
  cells_of c (Some command) = cells_for c command (all_targets setup cluster c command)

  abbrev pub holds : ℕ → List Cell
  holds c = cells_of c (next_command setup cluster c)
