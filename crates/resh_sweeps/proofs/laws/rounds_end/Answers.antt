use Rattle.resh_sweeps.proofs.Ending.{rounds_end as ending}
use Rattle.resh_sweeps.proofs.laws.rounds_end.Goals as goal

pub returns : goal.returns
returns c =
    ending c.schedule_laws.ensures.keeps c.leads_on.ensures.stays c.feeds_are_few.ensures c.idle_links_are_ready.ensures
