use Rattle.std.proofs.Common.{◌≡◌, filter, map}
use Rattle.std.specs.List.{range_with_len}
use Rattle.resh_bag.specs.Parts.{is_among}
use Rattle.resh_cells.specs.declared.cell.Cell.TheVariants as named
use Rattle.resh_asking.proofs.holding.shard_cells.Given as goal

abbrev pub invariant-loop-shard : goal.invariant-loop-shard
invariant-loop-shard l = l.cells.items ≡ map named.Shard (filter (is_among l.shards) (range_with_len 0 l.shard))
