use Rattle.resh_licence.proofs.Licensed.{ends_are_licensed, links_are_licensed}
use Rattle.resh_licence.proofs.Stepping.{files_are_licensed}
use Rattle.resh_licence.proofs.laws.failures_are_licensed.Goals as goal

pub returns-clause-ends : goal.returns-clause-ends
returns-clause-ends c = ends_are_licensed

pub returns-clause-links : goal.returns-clause-links
returns-clause-links c = links_are_licensed

pub returns-clause-files : goal.returns-clause-files
returns-clause-files c = files_are_licensed
