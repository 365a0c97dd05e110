use Rattle.resh_donor.proofs.Passing.{passed_where_told}
use Rattle.resh_donor.proofs.laws.donor_laws.Goals as goal

pub returns-clause-passed : goal.returns-clause-passed
returns-clause-passed c = passed_where_told
