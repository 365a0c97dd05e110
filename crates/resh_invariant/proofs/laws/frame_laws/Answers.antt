use Rattle.resh_invariant.proofs.Framing.{keeps_by_cell}
use Rattle.resh_invariant.proofs.laws.frame_laws.Goals as goal

pub returns : goal.returns
returns c = keeps_by_cell c.link_laws.ensures.stands
