use Rattle.std.proofs.Common.{◌≡◌, length}
use Rattle.resh_events.specs.rows.Record.{reach}
use Rattle.resh_copying.proofs.recording.reach.Given as goal

abbrev pub invariant-loop-lanes : goal.invariant-loop-lanes
invariant-loop-lanes l = reach l.d.0 l.lanes l.numbers ≡ reach l.d.0 l.fn.lanes l.fn.numbers

abbrev pub decreases-loop-lanes : goal.decreases-loop-lanes
decreases-loop-lanes l = length l.lanes
