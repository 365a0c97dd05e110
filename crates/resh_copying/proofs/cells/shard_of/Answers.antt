use Rattle.std.proofs.Common.{Option, unwrap_or, ap, ◌∙◌}
use Rattle.std.proofs.lemmas.Option.{unwrap_or-slice_get}
use Rattle.resh_cells.specs.Cells.{no_shard}
use Rattle.resh_cells.specs.declared.cluster.ShardCell.{ShardCell}
use Rattle.resh_copying.proofs.cells.shard_of.Goals as goal

pub returns : goal.returns
returns c =
    ap (λ (o : Option ShardCell). unwrap_or o no_shard) c.get.ensures
    ∙ unwrap_or-slice_get c.args.cluster.now.shards c.args.shard.0 no_shard
