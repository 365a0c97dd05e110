use Rattle.std.proofs.Common.{◌≡◌, true}
use Rattle.resh_lane.specs.Lanes.{with_started}
use Rattle.resh_telling.proofs.Changing.{partly}
use Rattle.resh_telling.proofs.lanes.start_all.Given as goal

abbrev pub invariant-loop-place : goal.invariant-loop-place
invariant-loop-place l = l.lanes ≡ partly (with_started true) l.place l.fn.lanes
