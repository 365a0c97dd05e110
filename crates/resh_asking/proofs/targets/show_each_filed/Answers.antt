use Rattle.std.proofs.Common.{arith, below_more, get_or}
use Rattle.resh_versions.specs.Standing.{IsFiled}
use Rattle.resh_cells.specs.Cells.{shard_in}
use Rattle.resh_asking.proofs.targets.show_each_filed.Goals as goal

pub loop-shard-preserved : goal.loop-shard-preserved
loop-shard-preserved c =
    below_more (λ k. IsFiled (shard_in c.args.cluster.now (get_or c.args.shards.now k 0)).shard.versions.chains) c.loop-shard.shard-index c.loop-shard.invariant c.in_ok-show_filed.ensures.filed

pub returns : goal.returns
returns c = λ i within. c.loop-shard.invariant i (omega (arith, within, c.loop-shard-test.false))
