use Rattle.std.proofs.Common.{◌≡◌, take}
use Rattle.resh_events.specs.rows.Crash.{back}
use Rattle.resh_copying.proofs.crashing.back.Given as goal

abbrev pub invariant-loop-place : goal.invariant-loop-place
invariant-loop-place l = l.lanes ≡ back l.d.0 l.fn.lanes (take l.place l.numbers)
