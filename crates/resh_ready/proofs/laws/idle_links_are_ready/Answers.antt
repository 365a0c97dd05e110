use Rattle.resh_ready.proofs.Ready.{links_are_ready}
use Rattle.resh_ready.proofs.laws.idle_links_are_ready.Goals as goal

pub returns : goal.returns
returns c = links_are_ready
