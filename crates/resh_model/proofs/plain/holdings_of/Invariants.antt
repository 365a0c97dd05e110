use Rattle.std.proofs.Common.{◌≡◌, map}
use Rattle.std.specs.List.{range_with_len}
use Rattle.resh_bag.specs.Placement.{part}
use Rattle.resh_model.proofs.plain.holdings_of.Given as goal

abbrev pub invariant-loop-shard : goal.invariant-loop-shard
invariant-loop-shard l = l.holdings.items ≡ map (part l.chunks l.collection) (range_with_len 0 l.shard)
