use Rattle.std.proofs.Common.{sym, ap}
use Rattle.resh_cells.specs.Cells.{no_shard}
use Rattle.resh_cells.specs.declared.cluster.ShardCell.{ShardCell}
use Rattle.resh_cells.proofs.Places.{or_default}
use Rattle.resh_asking.proofs.reading.which_at.Goals as goal

pub returns-in-None : goal.returns-in-None
returns-in-None c = sym (ap (λ (k : ShardCell). k.shard.which) (or_default c.args.cluster.now.shards c.args.shard no_shard (sym c.in-None.ensures)))
