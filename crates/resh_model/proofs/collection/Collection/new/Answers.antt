use Rattle.std.proofs.Common.{ap, ◌∙◌}
use Rattle.resh_model.specs.Entries.{gathered}
use Rattle.resh_model.proofs.bags.Gathered.{gathered_none}
use Rattle.resh_model.proofs.collection.Collection.new.Goals as goal

pub returns : goal.returns
returns c = ap gathered c.new.ensures.items ∙ gathered_none
