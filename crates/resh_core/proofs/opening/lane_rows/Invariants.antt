use Rattle.std.proofs.Common.{◌≡◌, replicate}
use Rattle.resh_core.specs.Openings.{opening_lane_of}
use Rattle.resh_core.proofs.opening.lane_rows.Given as goal

abbrev pub invariant-loop : goal.invariant-loop
invariant-loop l = l.rows.items ≡ replicate l.counter (replicate l.setup.lanes (opening_lane_of l.setup l.shards))
