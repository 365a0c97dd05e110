use Rattle.std.proofs.Common.{◌≡◌}
use Rattle.resh_core.specs.Planning.{lane_rows, tolds_in}
use Rattle.resh_core.proofs.planning.lane_lucks.Given as goal

abbrev pub invariant-loop-recipient : goal.invariant-loop-recipient
invariant-loop-recipient l = tolds_in l.lucks.items ≡ lane_rows l.setup l.shards l.recipient
