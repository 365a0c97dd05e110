use Rattle.resh_control_rows.proofs.Rows.{control_rows_keep}
use Rattle.resh_control_rows.proofs.laws.control_row_laws.Goals as goal

pub returns : goal.returns
returns c = control_rows_keep c.link_laws.ensures.stands
