use Rattle.resh_ending.proofs.Applying.{applies_end as applying_ends}
use Rattle.resh_ending.proofs.laws.applies_end.Goals as goal

pub returns : goal.returns
returns c = applying_ends
