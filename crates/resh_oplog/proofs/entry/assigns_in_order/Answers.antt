use Rattle.std.proofs.Common.{sym}
use Rattle.resh_value.proofs.WholeLaws.{rising_decides}
use Rattle.resh_oplog.proofs.entry.assigns_in_order.Goals as goal

pub returns : goal.returns
returns c = sym ((rising_decides c.args.change.now.assign).1 c.pairs-assigned.ensures.rising)
