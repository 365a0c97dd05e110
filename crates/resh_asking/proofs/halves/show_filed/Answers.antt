use Rattle.std.proofs.Common.{sym, subst}
use Rattle.resh_versions.specs.Standing.{IsFiled}
use Rattle.resh_cells.specs.Cells.{no_shard}
use Rattle.resh_cells.specs.declared.cluster.ShardCell.{ShardCell}
use Rattle.resh_cells.proofs.Places.{or_item}
use Rattle.resh_asking.proofs.Becoming.{there_is}
use Rattle.resh_asking.proofs.halves.show_filed.Goals as goal

pub returns-in-Some-clause-filed : goal.returns-in-Some-clause-filed
returns-in-Some-clause-filed c =
    subst (λ (k : ShardCell). IsFiled k.shard.versions.chains) (sym (or_item c.args.cluster.now.shards c.args.shard no_shard c.in-Some.cell.now (sym c.in-Some.ensures))) c.tell_filed.ensures

pub returns-in-Some-clause-there : goal.returns-in-Some-clause-there
returns-in-Some-clause-there c = there_is c.args.cluster.now.shards c.args.shard c.in-Some.cell.now (sym c.in-Some.ensures)
