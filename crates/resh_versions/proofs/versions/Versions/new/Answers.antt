use Rattle.resh_versions.proofs.Filing.{kept_none}
use Rattle.resh_versions.proofs.versions.Versions.new.Goals as goal

pub invariant_of-result : goal.invariant_of-result
invariant_of-result c = (kept_none c.new.result c.new.ensures.ordered c.new.ensures.empty).1

pub returns-clause-chains : goal.returns-clause-chains
returns-clause-chains c = (kept_none c.new.result c.new.ensures.ordered c.new.ensures.empty).0
