use Rattle.resh_story.proofs.Installing.{installs_last, joins_outputs}
use Rattle.resh_story.proofs.laws.install_laws.Goals as goal

pub returns-clause-holds : goal.returns-clause-holds
returns-clause-holds c = installs_last

pub returns-clause-joins : goal.returns-clause-joins
returns-clause-joins c = joins_outputs
