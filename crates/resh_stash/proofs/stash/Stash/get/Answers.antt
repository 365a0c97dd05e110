use Rattle.std.proofs.Common.{ap, sym, ◌∙◌}
use Rattle.std.specs.FinMap.{get}
use Rattle.resh_stash.proofs.Gathered.{get_gathered}
use Rattle.resh_stash.proofs.stash.Stash.get.Goals as goal

pub returns : goal.returns
returns c = c.get.ensures.value ∙ sym (get_gathered c.self.inside.documents.entries c.args.id.now) ∙ ap (λ s. get s.documents c.args.id.now) c.self.view_is
