use Rattle.resh_router.proofs.Targeted.{answers_alone, answers_by_target}
use Rattle.resh_router.proofs.laws.targets_answer.Goals as goal

pub returns-clause-together : goal.returns-clause-together
returns-clause-together c = answers_by_target

pub returns-clause-alone : goal.returns-clause-alone
returns-clause-alone c = answers_alone
