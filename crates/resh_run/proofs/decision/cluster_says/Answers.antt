use Rattle.resh_run.proofs.Runs.{clustering}
use Rattle.resh_run.proofs.decision.cluster_says.Goals as goal

pub returns-in-Ok : goal.returns-in-Ok
returns-in-Ok c =
    clustering c.args.setup.now c.in-Ok.ran c.requires.needs c.requires.valid c.schedule_laws.ensures.ends c.in-Ok.ensures
