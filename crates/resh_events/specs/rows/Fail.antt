-- A failure is heard: its link, if it has one, is closed for its own events, and where nothing is decided the operation
-- is dropped for it. Which event it follows is said where events follow one another.
use Rattle.std.specs.Prelude.{Bool, true, false, List, [], ◌∷◌, Option, Some, None, is_some}
use Rattle.resh_value.specs.declared.value.ShardId.{ShardId}
use Rattle.resh_fetcher.specs.Links.{failed}
use Rattle.resh_coord.specs.Control.{unless_decided}
use Rattle.resh_coord.specs.declared.cause.Cause.{Cause}
use Rattle.resh_coord.specs.declared.cause.Cause.TheVariants as cause
use Rattle.resh_cells.specs.Cells.{on_control, on_link}
use Rattle.resh_cells.specs.declared.cluster.Cluster.{Cluster}
use Rattle.resh_cells.specs.declared.cell.Cell.{Cell}
use Rattle.resh_cells.specs.declared.cell.Cell.TheVariants as named
use Rattle.resh_setup.specs.declared.seen.Seen.{Seen}
use Rattle.resh_setup.specs.declared.seen.Seen.TheVariants.{Idle, Fails, FailsForMemory}

abbrev pub Link : Type 0
Link = ShardId × ShardId

-- the cause is a failure, or want of memory of a link; a clash and an asked abort are decided elsewhere
abbrev pub may : Option Link → Cause → Bool
may link (cause.Failed node why) = true
may link cause.NoMemory = is_some link
may link (cause.Clash shard id) = false
may link (cause.Asked client number) = false

-- the link fails, if there is one
abbrev pub with_failed : Option Link → Cluster → Cluster
with_failed None cluster = cluster
with_failed (Some link) cluster = on_link link.0.0 link.1.0 failed cluster

abbrev pub change : Cluster → Option Link → Cause → Cluster
change cluster link cause = on_control (unless_decided cause) (with_failed link cluster)

-- whether it is too late
abbrev pub is_late : Cluster → Bool
is_late cluster = is_some cluster.control.decision

-- for want of memory the node is the link's recipient
abbrev pub memory_seen : Option Link → Bool → Seen
memory_seen None late = Idle
memory_seen (Some link) late = FailsForMemory link.0 late

abbrev pub seen : Cluster → Option Link → Cause → Seen
seen cluster link (cause.Failed node why) = Fails node why (is_late cluster)
seen cluster link cause.NoMemory = memory_seen link (is_late cluster)
seen cluster link (cause.Clash shard id) = Idle
seen cluster link (cause.Asked client number) = Idle

abbrev pub holds : Option Link → List Cell
holds None = named.Coordinator ∷ []
holds (Some link) = named.Coordinator ∷ named.Link link.0.0 link.1.0 ∷ []
