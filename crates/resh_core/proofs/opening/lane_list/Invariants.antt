use Rattle.std.proofs.Common.{◌≡◌, replicate}
use Rattle.resh_core.specs.Openings.{opening_lane_of}
use Rattle.resh_core.proofs.opening.lane_list.Given as goal

abbrev pub invariant-loop : goal.invariant-loop
invariant-loop l = l.cells.items ≡ replicate l.counter (opening_lane_of l.setup l.shards)
