use Rattle.resh_place.proofs.Mark.{notes_decide}
use Rattle.resh_place.proofs.laws.note_laws.Goals as goal

pub returns : goal.returns
returns c = notes_decide
