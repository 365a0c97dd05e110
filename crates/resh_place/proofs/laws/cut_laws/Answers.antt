use Rattle.resh_place.proofs.Cutting.{cuts_stand}
use Rattle.resh_place.proofs.laws.cut_laws.Goals as goal

pub returns : goal.returns
returns c = cuts_stand
