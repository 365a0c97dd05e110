use Rattle.std.proofs.Common.{ap, sym, ◌∙◌}
use Rattle.std.specs.FinMap.{len}
use Rattle.resh_stash.proofs.Gathered.{len_gathered}
use Rattle.resh_stash.proofs.stash.Stash.len.Goals as goal

pub returns : goal.returns
returns c = c.len.ensures.len ∙ sym (len_gathered c.self.inside.documents.entries c.len.ensures.unique) ∙ ap (λ s. len s.documents) c.self.view_is
