use Rattle.resh_invariant.proofs.Opening.{opens_kept}
use Rattle.resh_invariant.proofs.laws.opening_laws.Goals as goal

pub returns : goal.returns
returns c = opens_kept
