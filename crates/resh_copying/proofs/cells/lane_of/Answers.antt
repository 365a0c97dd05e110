use Rattle.std.proofs.Common.{Option, unwrap_or, ap, ◌∙◌}
use Rattle.resh_lane.specs.Lanes.{LaneOf}
use Rattle.resh_cells.specs.Cells.{no_lane}
use Rattle.resh_copying.proofs.Places.{in_none, in_row}
use Rattle.resh_copying.proofs.cells.lane_of.Goals as goal

pub returns-in-Some : goal.returns-in-Some
returns-in-Some c =
    ap (λ (o : Option LaneOf). unwrap_or o no_lane) c.get-in-Some.ensures
    ∙ in_row c.args.cluster.now.lanes c.args.r.0 c.args.lane c.in-Some.lanes.now no_lane c.in-Some.ensures

pub returns-in-None : goal.returns-in-None
returns-in-None c = in_none c.args.cluster.now.lanes c.args.r.0 c.args.lane no_lane c.in-None.ensures
