use Rattle.std.proofs.Common.{sym}
use Rattle.resh_cli.proofs.run.Goals as goal

pub returns : goal.returns
returns g c = (c.plain_main-outcome.result, c.plain_main-outcome.ensures.outcome, sym c.from.ensures)
