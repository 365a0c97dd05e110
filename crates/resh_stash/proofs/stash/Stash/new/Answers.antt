use Rattle.std.proofs.Common.{ap, ◌∙◌}
use Rattle.resh_stash.specs.Stored.{gathered}
use Rattle.resh_stash.proofs.Gathered.{gathered_none}
use Rattle.resh_stash.proofs.stash.Stash.new.Goals as goal

pub returns : goal.returns
returns c = ap gathered c.new.ensures.empty ∙ gathered_none
