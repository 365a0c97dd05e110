use Rattle.resh_mark_rows.proofs.Rows.{mark_rows_keep}
use Rattle.resh_mark_rows.proofs.laws.mark_row_laws.Goals as goal

pub returns : goal.returns
returns c = mark_rows_keep
