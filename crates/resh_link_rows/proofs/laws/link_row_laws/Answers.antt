use Rattle.resh_link_rows.proofs.Rows.{link_rows_keep}
use Rattle.resh_link_rows.proofs.laws.link_row_laws.Goals as goal

pub returns : goal.returns
returns c = link_rows_keep c.link_laws.ensures.stands
