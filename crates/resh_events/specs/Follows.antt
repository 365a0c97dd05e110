-- What follows an event by what it met: a link's crash, or a failure.
use Rattle.std.specs.Prelude.{ℕ, ◌==◌, Bool, cond, Option, Some, None}
use Rattle.std.specs.Option.{option_map}
use Rattle.resh_value.specs.declared.value.ShardId.{ShardId}
use Rattle.resh_coord.specs.declared.cause.Cause.TheVariants as cause
use Rattle.resh_coord.specs.declared.cause.Node.{Node}
use Rattle.resh_coord.specs.declared.cause.Node.TheVariants as node
use Rattle.resh_coord.specs.declared.cause.Why.{Why}
use Rattle.resh_coord.specs.declared.cause.Why.TheVariants.{Commit, Link as Losses, Crashes}
use Rattle.resh_setup.specs.declared.event.Event.{Event}
use Rattle.resh_setup.specs.declared.event.Event.TheVariants.{Clone, Fetch, Cut, Apply, Again, Record, Crash, Fail}
use Rattle.resh_setup.specs.declared.plan.Who.{Who}
use Rattle.resh_setup.specs.declared.plan.Who.TheVariants.{Coordinator, Link, Lane}
use Rattle.resh_cells.specs.Cells.{link_in}
use Rattle.resh_cells.specs.declared.cluster.Cluster.{Cluster}
use Rattle.resh_events.specs.Luck.{Asks, commits, delivers}
use Rattle.resh_setup.specs.declared.trace.Met.{Met}
use Rattle.resh_setup.specs.declared.trace.Met.TheVariants.{Row, CrashedBefore, CrashedAfter, Failed, Lost, NoMemory, NoMemoryInMove}

-- an activity's node, and its link
abbrev pub node_of : Who → Node
node_of Coordinator = node.Coordinator
node_of (Link r d) = node.Shard r
node_of (Lane r d l) = node.Shard r

abbrev pub link_of : Who → Option (ShardId × ShardId)
link_of Coordinator = None
link_of (Link r d) = Some (r, d)
link_of (Lane r d l) = Some (r, d)

-- the failure of an activity; the coordinator's fails no link
abbrev pub failure : Who → Why → Event
failure who why = Fail (link_of who) (cause.Failed (node_of who) why)

-- this many crashes of a link or of the coordinator, and this many losses of one call, are a failure
abbrev pub limit : ℕ
limit = 64

abbrev pub only_if : Bool → Event → Option Event
only_if test event = cond test (Some event) None

-- a link that is open goes back; the coordinator's crash is counted by the event that met it
abbrev pub after_crash : Cluster → Who → Option Event
after_crash cluster Coordinator = only_if (cluster.control.crashes == limit) (failure Coordinator Crashes)
after_crash cluster (Link r d) = only_if (link_in cluster r.0 d.0).link.is_open (Crash r d)
after_crash cluster (Lane r d l) = only_if (link_in cluster r.0 d.0).link.is_open (Crash r d)

abbrev pub after_fate : Cluster → Asks → Option Event
after_fate cluster (commits who) = after_crash cluster who
after_fate cluster other = None

abbrev pub after_failing : Asks → Option Event
after_failing (commits who) = Some (failure who Commit)
after_failing other = None

abbrev pub after_losses : Asks → Option Event
after_losses (delivers who) = Some (failure who Losses)
after_losses other = None

-- the link of an event that is a link's or a lane's
abbrev pub own_link : Event → Option (ShardId × ShardId)
own_link (Clone r d) = Some (r, d)
own_link (Fetch r d) = Some (r, d)
own_link (Cut r d) = Some (r, d)
own_link (Apply r d l) = Some (r, d)
own_link (Again r d l position) = Some (r, d)
own_link (Record r d) = Some (r, d)
own_link other = None

-- a link's want of memory fails it; a client's is answered
abbrev pub wanted : ShardId × ShardId → Event
wanted link = Fail (Some link) cause.NoMemory

-- the last crash that a link is allowed fails it
abbrev pub after_row : Cluster → Event → Option Event
after_row cluster (Crash r d) = only_if ((link_in cluster r.0 d.0).link.crashes == limit) (failure (Link r d) Crashes)
after_row cluster other = None

-- by the state after the event, and what it had asked
abbrev pub follows : Cluster → Event → Asks → Met → Option Event
follows cluster event asked Row = after_row cluster event
follows cluster event asked CrashedBefore = after_fate cluster asked
follows cluster event asked CrashedAfter = after_fate cluster asked
follows cluster event asked Failed = after_failing asked
follows cluster event asked Lost = after_losses asked
follows cluster event asked NoMemory = option_map wanted (own_link event)
follows cluster event asked NoMemoryInMove = None
