use Rattle.resh_tell_rows.proofs.Rows.{tell_rows_keep}
use Rattle.resh_tell_rows.proofs.laws.tell_row_laws.Goals as goal

pub returns : goal.returns
returns c = tell_rows_keep c.link_laws.ensures.stands
