use Rattle.std.proofs.Common.{sym, ap}
use Rattle.resh_cells.specs.Cells.{no_client}
use Rattle.resh_cells.specs.declared.cluster.ClientCell.{ClientCell}
use Rattle.resh_cells.proofs.Places.{or_default}
use Rattle.resh_asking.proofs.reading.known_which.Goals as goal

pub returns-in-None : goal.returns-in-None
returns-in-None c = sym (ap (λ (k : ClientCell). k.knows) (or_default c.args.cluster.now.clients c.args.client no_client (sym c.in-None.ensures)))
