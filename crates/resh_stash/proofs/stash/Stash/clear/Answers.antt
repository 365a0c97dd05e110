use Rattle.std.proofs.Common.{ap, ◌∙◌}
use Rattle.resh_stash.specs.Stored.{gathered}
use Rattle.resh_stash.proofs.Gathered.{gathered_none}
use Rattle.resh_stash.proofs.stash.Stash.clear.Goals as goal

pub returns-clause-documents : goal.returns-clause-documents
returns-clause-documents c = ap gathered c.clear.ensures.empty ∙ gathered_none
