use Rattle.resh_licence.proofs.Stepping.{files_keep_plans, steps_keep_plans as steps_keep, sweeps_keep_plans}
use Rattle.resh_licence.proofs.laws.steps_keep_plans.Goals as goal

pub returns-clause-step : goal.returns-clause-step
returns-clause-step c = steps_keep

pub returns-clause-sweep : goal.returns-clause-sweep
returns-clause-sweep c = sweeps_keep_plans

pub returns-clause-file : goal.returns-clause-file
returns-clause-file c = files_keep_plans
