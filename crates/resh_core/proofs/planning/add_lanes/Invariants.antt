use Rattle.std.proofs.Common.{◌≡◌, ◌++◌}
use Rattle.resh_core.specs.Planning.{lane_list, tolds_in}
use Rattle.resh_core.proofs.planning.add_lanes.Given as goal

abbrev pub invariant-loop-lane : goal.invariant-loop-lane
invariant-loop-lane l =
    tolds_in l.lucks.items ≡ tolds_in l.initial.lucks.items ++ lane_list l.setup l.recipient l.donor l.lane
