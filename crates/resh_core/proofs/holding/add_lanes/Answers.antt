use Rattle.resh_core.proofs.ListLaws.{behind_more}
use Rattle.resh_core.proofs.holding.add_lanes.Goals as goal

pub loop-lane-preserved : goal.loop-lane-preserved
loop-lane-preserved c =
    behind_more _ c.loop-lane.lane c.lane_cell.result c.args.cells.now.items c.loop-lane.cells.items _
    c.loop-lane.invariant c.in_ok-push.ensures.items c.lane_cell.ensures
