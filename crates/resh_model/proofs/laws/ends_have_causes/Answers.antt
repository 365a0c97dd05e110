use Rattle.resh_model.proofs.orders.MarkCauses.{commits_else, ends_have_causes, one_mark_without_clients}
use Rattle.resh_model.proofs.laws.ends_have_causes.Goals as goal

pub returns-clause-cause : goal.returns-clause-cause
returns-clause-cause c = ends_have_causes

pub returns-clause-commits : goal.returns-clause-commits
returns-clause-commits c = commits_else

pub returns-clause-one_mark : goal.returns-clause-one_mark
returns-clause-one_mark c = one_mark_without_clients
