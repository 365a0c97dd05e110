use Rattle.resh_client_rows.proofs.Rows.{client_rows_keep}
use Rattle.resh_client_rows.proofs.laws.client_row_laws.Goals as goal

pub returns : goal.returns
returns c = client_rows_keep c.write_row_laws.ensures
