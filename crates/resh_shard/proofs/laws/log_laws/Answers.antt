use Rattle.resh_shard.proofs.Found.{logs_its_effect}
use Rattle.resh_shard.proofs.Logged.{entries_have_contents, log_grows}
use Rattle.resh_shard.proofs.laws.log_laws.Goals as goal

pub returns-clause-effect : goal.returns-clause-effect
returns-clause-effect c = logs_its_effect

pub returns-clause-grows : goal.returns-clause-grows
returns-clause-grows c = log_grows

pub returns-clause-contents : goal.returns-clause-contents
returns-clause-contents c = entries_have_contents
