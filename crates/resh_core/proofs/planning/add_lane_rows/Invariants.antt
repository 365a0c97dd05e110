use Rattle.std.proofs.Common.{◌≡◌, ◌++◌}
use Rattle.resh_core.specs.Planning.{lane_row, tolds_in}
use Rattle.resh_core.proofs.planning.add_lane_rows.Given as goal

abbrev pub invariant-loop-donor : goal.invariant-loop-donor
invariant-loop-donor l = tolds_in l.lucks.items ≡ tolds_in l.initial.lucks.items ++ lane_row l.setup l.recipient l.donor
