use Rattle.std.proofs.Common.{◌≡◌, map}
use Rattle.std.specs.List.{range_with_len}
use Rattle.resh_events.specs.Opening.{opening_shard}
use Rattle.resh_core.proofs.opening.shard_list.Given as goal

abbrev pub invariant-loop-shard : goal.invariant-loop-shard
invariant-loop-shard l = l.cells.items ≡ map (opening_shard l.setup) (range_with_len 0 l.shard)
