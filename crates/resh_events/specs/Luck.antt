-- What an event asks of luck and what it may meet; what it changes, shows and holds by what it met.
use Rattle.std.specs.Prelude.{Bool, true, false, cond, List, Option}
use Rattle.resh_oplog.specs.declared.piece.Piece.{Piece}
use Rattle.resh_stamp.specs.declared.stamp.Stamp.{Stamp}
use Rattle.resh_coord.specs.Control.{with_crash}
use Rattle.resh_setup.specs.declared.event.Event.{Event}
use Rattle.resh_setup.specs.declared.event.Event.TheVariants as event
use Rattle.resh_setup.specs.declared.plan.Who.{Who}
use Rattle.resh_setup.specs.declared.plan.Who.TheVariants.{Coordinator, Link, Lane}
use Rattle.resh_setup.specs.declared.setup.Setup.{Setup}
use Rattle.resh_cells.specs.Cells.{on_control}
use Rattle.resh_cells.specs.declared.cluster.Cluster.{Cluster}
use Rattle.resh_cells.specs.declared.cell.Cell.{Cell}
use Rattle.resh_events.specs.Table as table
use Rattle.resh_setup.specs.declared.trace.Met.{Met}
use Rattle.resh_setup.specs.declared.trace.Met.TheVariants.{Row, CrashedBefore, CrashedAfter, Failed, Lost, NoMemory, NoMemoryInMove}
use Rattle.resh_setup.specs.declared.seen.Seen.{Seen}
use Rattle.resh_setup.specs.declared.seen.Seen.TheVariants as shown
use Rattle.resh_events.specs.rows.Again as again
use Rattle.resh_events.specs.rows.Refused as refused

-- an activity commits, or something is delivered to it, or nothing is asked
pub data Asks : Type 0 where
  quiet : Asks
  commits : Who → Asks
  delivers : Who → Asks

-- an again asks only where the lane would take its piece
abbrev pub asks : Cluster → Event → Option Piece → Asks
asks cluster event.Begin piece = commits Coordinator
asks cluster event.Advance piece = commits Coordinator
asks cluster (event.Record r d) piece = commits (Link r d)
asks cluster (event.Apply r d l) piece = commits (Lane r d l)
asks cluster (event.Again r d l position) piece =
    cond (again.takes cluster r.0 d.0 l piece) (commits (Lane r d l)) quiet
asks cluster (event.Tell s) piece = delivers Coordinator
asks cluster (event.Clone r d) piece = delivers (Link r d)
asks cluster (event.Fetch r d) piece = delivers (Link r d)
asks cluster other piece = quiet

abbrev pub is_commit : Asks → Bool
is_commit quiet = false
is_commit (commits who) = true
is_commit (delivers who) = false

abbrev pub is_delivery : Asks → Bool
is_delivery quiet = false
is_delivery (commits who) = false
is_delivery (delivers who) = true

-- want of memory is an event's own; in the others the whole run is given up for it
abbrev pub may_want_memory : Event → Bool
may_want_memory (event.Client c) = true
may_want_memory (event.Clone r d) = true
may_want_memory (event.Fetch r d) = true
may_want_memory (event.Cut r d) = true
may_want_memory (event.Apply r d l) = true
may_want_memory (event.Again r d l position) = true
may_want_memory (event.Record r d) = true
may_want_memory other = false

-- the row is made
abbrev pub acts : Met → Bool
acts Row = true
acts CrashedBefore = false
acts CrashedAfter = true
acts Failed = false
acts Lost = false
acts NoMemory = false
acts NoMemoryInMove = false

module _ (setup : Setup) where
  abbrev pub may_want_in_move : Cluster → Event → Bool
  may_want_in_move cluster (event.Client c) = refused.may_in_move setup cluster c
  may_want_in_move cluster other = false

  -- a fate comes to a commit, a loss to a delivery
  abbrev pub may_meet : Cluster → Event → Option Piece → Met → Bool
  may_meet cluster e piece Row = true
  may_meet cluster e piece CrashedBefore = is_commit (asks cluster e piece)
  may_meet cluster e piece CrashedAfter = is_commit (asks cluster e piece)
  may_meet cluster e piece Failed = is_commit (asks cluster e piece)
  may_meet cluster e piece Lost = is_delivery (asks cluster e piece)
  may_meet cluster e piece NoMemory = may_want_memory e
  may_meet cluster e piece NoMemoryInMove = may_want_in_move cluster e

  -- a crash of the coordinator, whose state is kept, is counted and nothing else
  abbrev pub counted : Asks → Cluster → Cluster
  counted (commits Coordinator) cluster = on_control with_crash cluster
  counted other cluster = cluster

  -- a refused command has its reply; else nothing changes for want of memory
  abbrev pub wanting : Event → Cluster → Cluster
  wanting (event.Client c) cluster = refused.change setup cluster c
  wanting other cluster = cluster

  abbrev pub change : Stamp → Cluster → Event → Option Piece → Met → Cluster
  change stamp cluster e piece Row = table.change setup stamp cluster e piece
  change stamp cluster e piece CrashedBefore = counted (asks cluster e piece) cluster
  change stamp cluster e piece CrashedAfter = counted (asks cluster e piece) (table.change setup stamp cluster e piece)
  change stamp cluster e piece Failed = cluster
  change stamp cluster e piece Lost = cluster
  change stamp cluster e piece NoMemory = wanting e cluster
  change stamp cluster e piece NoMemoryInMove = wanting e cluster

  abbrev pub want_seen : Cluster → Event → Seen
  want_seen cluster (event.Client c) = refused.seen setup cluster c
  want_seen cluster other = shown.NoMemory

  abbrev pub seen : Stamp → Cluster → Event → Option Piece → Met → Seen
  seen stamp cluster e piece Row = table.seen setup stamp cluster e piece
  seen stamp cluster e piece CrashedBefore = shown.CrashedBefore
  seen stamp cluster e piece CrashedAfter = table.seen setup stamp cluster e piece
  seen stamp cluster e piece Failed = shown.Failed
  seen stamp cluster e piece Lost = shown.Lost
  seen stamp cluster e piece NoMemory = want_seen cluster e
  seen stamp cluster e piece NoMemoryInMove = want_seen cluster e

  -- a refused command holds the shard to which an update's result belongs only once the move has begun
  abbrev pub want_holds : Cluster → Event → List Cell
  want_holds cluster (event.Client c) = refused.holds setup cluster c
  want_holds cluster other = table.holds setup cluster other

  abbrev pub holds : Cluster → Event → Met → List Cell
  holds cluster e Row = table.holds setup cluster e
  holds cluster e CrashedBefore = table.holds setup cluster e
  holds cluster e CrashedAfter = table.holds setup cluster e
  holds cluster e Failed = table.holds setup cluster e
  holds cluster e Lost = table.holds setup cluster e
  holds cluster e NoMemory = want_holds cluster e
  holds cluster e NoMemoryInMove = table.holds setup cluster e
