use Rattle.resh_write_rows.proofs.Rows.{write_keeps}
use Rattle.resh_write_rows.proofs.laws.write_row_laws.Goals as goal

pub returns : goal.returns
returns c = write_keeps c.link_laws.ensures.stands
