use Rattle.std.proofs.Common.{◌≡◌}
use Rattle.resh_lane.specs.Lanes.{emptied}
use Rattle.resh_telling.proofs.Changing.{partly}
use Rattle.resh_telling.proofs.lanes.clear_all.Given as goal

abbrev pub invariant-loop-place : goal.invariant-loop-place
invariant-loop-place l = l.lanes ≡ partly emptied l.place l.fn.lanes
