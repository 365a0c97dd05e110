use Rattle.std.proofs.Common.{sym, ap}
use Rattle.resh_cells.specs.Cells.{no_shard}
use Rattle.resh_cells.proofs.Places.{or_default}
use Rattle.resh_events.specs.Targets.{is_free}
use Rattle.resh_asking.proofs.reading.is_free.Goals as goal

pub returns-in-None : goal.returns-in-None
returns-in-None c = sym (ap is_free (or_default c.args.cluster.now.shards c.args.shard no_shard (sym c.in-None.ensures)))
