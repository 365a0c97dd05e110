use Rattle.resh_licence.proofs.Happening.{ends_have_causes, links_have_causes}
use Rattle.resh_licence.proofs.laws.failures_have_causes.Goals as goal

pub returns-clause-ends : goal.returns-clause-ends
returns-clause-ends c = ends_have_causes

pub returns-clause-links : goal.returns-clause-links
returns-clause-links c = links_have_causes
