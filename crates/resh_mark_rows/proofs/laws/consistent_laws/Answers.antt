use Rattle.resh_mark_rows.proofs.Standing.{consistent_stand}
use Rattle.resh_mark_rows.proofs.laws.consistent_laws.Goals as goal

pub returns : goal.returns
returns c = consistent_stand
