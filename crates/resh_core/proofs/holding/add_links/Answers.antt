use Rattle.resh_core.proofs.ListLaws.{behind_more}
use Rattle.resh_core.proofs.holding.add_links.Goals as goal

pub loop-donor-preserved : goal.loop-donor-preserved
loop-donor-preserved c =
    behind_more _ c.loop-donor.donor c.link_cell.result c.args.cells.now.items c.loop-donor.cells.items _
    c.loop-donor.invariant c.in_ok-push.ensures.items c.link_cell.ensures
