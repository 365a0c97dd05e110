use Rattle.resh_run.proofs.Runs.{summing}
use Rattle.resh_run.proofs.decision.sum_says.Goals as goal

pub returns-in-Ok : goal.returns-in-Ok
returns-in-Ok c = summing c.args.number c.in-Ok.ran c.schedule_laws.ensures.ends c.in-Ok.ensures
