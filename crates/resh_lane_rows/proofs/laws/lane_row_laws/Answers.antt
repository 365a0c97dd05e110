use Rattle.resh_lane_rows.proofs.Rows.{lane_rows_keep}
use Rattle.resh_lane_rows.proofs.laws.lane_row_laws.Goals as goal

pub returns : goal.returns
returns c = lane_rows_keep c.link_laws.ensures.stands
