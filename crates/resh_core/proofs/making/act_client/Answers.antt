use Rattle.resh_events.specs.Table.{may}
use Rattle.resh_core.proofs.making.act_client.Goals as goal

pub ask-requires-clause-may : goal.ask-requires-clause-may
unfolding may
ask-requires-clause-may c = c.requires.may
