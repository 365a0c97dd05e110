use Rattle.resh_run.proofs.WordLemmas.{forms_read}
use Rattle.resh_run.proofs.laws.forms_are_read.Goals as goal

pub returns : goal.returns
returns c = forms_read
