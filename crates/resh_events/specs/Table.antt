-- The table of events, one line a row: when each may be made, what it changes, what is seen of it, and the cells that
-- it holds, each once and by rising number. The piece is the one that an apply or an again is given.
use Rattle.std.specs.Prelude.{Bool, List, Option}
use Rattle.resh_oplog.specs.declared.piece.Piece.{Piece}
use Rattle.resh_stamp.specs.declared.stamp.Stamp.{Stamp}
use Rattle.resh_setup.specs.declared.event.Event.{Event}
use Rattle.resh_setup.specs.declared.event.Event.TheVariants.{Client, Begin, Tell, Retell, Advance, Clone, Fetch, Cut, Apply, Again, Record, Crash, Report, Fail}
use Rattle.resh_setup.specs.declared.setup.Setup.{Setup}
use Rattle.resh_cells.specs.declared.cluster.Cluster.{Cluster}
use Rattle.resh_cells.specs.declared.cell.Cell.{Cell}
use Rattle.resh_setup.specs.declared.seen.Seen.{Seen}
use Rattle.resh_events.specs.rows.Client as client
use Rattle.resh_events.specs.rows.Begin as begin
use Rattle.resh_events.specs.rows.Tell as tell
use Rattle.resh_events.specs.rows.Retell as retell
use Rattle.resh_events.specs.rows.Advance as advance
use Rattle.resh_events.specs.rows.Clone as clone
use Rattle.resh_events.specs.rows.Fetch as fetch
use Rattle.resh_events.specs.rows.Cut as cut
use Rattle.resh_events.specs.rows.Apply as apply
use Rattle.resh_events.specs.rows.Again as again
use Rattle.resh_events.specs.rows.Record as keep
use Rattle.resh_events.specs.rows.Crash as crash
use Rattle.resh_events.specs.rows.Report as report
use Rattle.resh_events.specs.rows.Fail as fail

unfoldable pub may : Setup → Cluster → Event → Option Piece → Bool
may setup cluster (Client c) piece = client.may setup cluster c
may setup cluster Begin piece = begin.may cluster
may setup cluster (Tell s) piece = tell.may cluster s.0
may setup cluster (Retell s message) piece = retell.may cluster s.0 message
may setup cluster Advance piece = advance.may cluster
may setup cluster (Clone r d) piece = clone.may cluster r.0 d.0
may setup cluster (Fetch r d) piece = fetch.may cluster r.0 d.0
may setup cluster (Cut r d) piece = cut.may cluster r.0 d.0
may setup cluster (Apply r d l) piece = apply.may cluster r.0 d.0 l piece
may setup cluster (Again r d l position) piece = again.may cluster r.0 d.0 l position piece
may setup cluster (Record r d) piece = keep.may cluster r.0 d.0
may setup cluster (Crash r d) piece = crash.may cluster r.0 d.0
may setup cluster (Report r) piece = report.may cluster r.0
may setup cluster (Fail link cause) piece = fail.may link cause

unfoldable pub change : Setup → Stamp → Cluster → Event → Option Piece → Cluster
change setup stamp cluster (Client c) piece = client.change setup cluster stamp c
change setup stamp cluster Begin piece = begin.change cluster
change setup stamp cluster (Tell s) piece = tell.change stamp cluster s.0
change setup stamp cluster (Retell s message) piece = retell.change cluster
change setup stamp cluster Advance piece = advance.change stamp cluster
change setup stamp cluster (Clone r d) piece = clone.change cluster r.0 d.0
change setup stamp cluster (Fetch r d) piece = fetch.change cluster r.0 d.0
change setup stamp cluster (Cut r d) piece = cut.change cluster r.0 d.0 stamp
change setup stamp cluster (Apply r d l) piece = apply.change cluster r.0 d.0 l piece
change setup stamp cluster (Again r d l position) piece = again.change cluster r.0 d.0 l piece
change setup stamp cluster (Record r d) piece = keep.change cluster r.0 d.0
change setup stamp cluster (Crash r d) piece = crash.change cluster r.0 d.0
change setup stamp cluster (Report r) piece = report.change cluster r.0
change setup stamp cluster (Fail link cause) piece = fail.change cluster link cause

unfoldable pub seen : Setup → Stamp → Cluster → Event → Option Piece → Seen
seen setup stamp cluster (Client c) piece = client.seen setup cluster c
seen setup stamp cluster Begin piece = begin.seen
seen setup stamp cluster (Tell s) piece = tell.seen cluster s.0
seen setup stamp cluster (Retell s message) piece = retell.seen
seen setup stamp cluster Advance piece = advance.seen stamp cluster
seen setup stamp cluster (Clone r d) piece = clone.seen cluster r.0 d.0
seen setup stamp cluster (Fetch r d) piece = fetch.seen cluster r.0 d.0
seen setup stamp cluster (Cut r d) piece = cut.seen cluster r.0 d.0
seen setup stamp cluster (Apply r d l) piece = apply.seen cluster r.0 d.0 l piece
seen setup stamp cluster (Again r d l position) piece = again.seen cluster r.0 d.0 l piece
seen setup stamp cluster (Record r d) piece = keep.seen cluster r.0 d.0
seen setup stamp cluster (Crash r d) piece = crash.seen cluster r.0 d.0
seen setup stamp cluster (Report r) piece = report.seen cluster r.0
seen setup stamp cluster (Fail link cause) piece = fail.seen cluster link cause

unfoldable pub holds : Setup → Cluster → Event → List Cell
holds setup cluster (Client c) = client.holds setup cluster c
holds setup cluster Begin = begin.holds
holds setup cluster (Tell s) = tell.holds setup s.0
holds setup cluster (Retell s message) = retell.holds s.0
holds setup cluster Advance = advance.holds
holds setup cluster (Clone r d) = clone.holds r.0 d.0
holds setup cluster (Fetch r d) = fetch.holds r.0 d.0
holds setup cluster (Cut r d) = cut.holds r.0 d.0
holds setup cluster (Apply r d l) = apply.holds r.0 l
holds setup cluster (Again r d l position) = again.holds r.0 l
holds setup cluster (Record r d) = keep.holds setup r.0 d.0
holds setup cluster (Crash r d) = crash.holds setup r.0 d.0
holds setup cluster (Report r) = report.holds setup r.0
holds setup cluster (Fail link cause) = fail.holds link
