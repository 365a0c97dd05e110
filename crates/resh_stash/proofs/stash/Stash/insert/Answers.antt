use Rattle.std.proofs.Common.{ap, ◌∙◌}
use Rattle.std.specs.FinMap.{insert}
use Rattle.resh_stash.proofs.Gathered.{gathered_put}
use Rattle.resh_stash.proofs.stash.Stash.insert.Goals as goal

pub returns-in-Ok-insert-clause-ok : goal.returns-in-Ok-insert-clause-ok
returns-in-Ok-insert-clause-ok c =
    gathered_put c.replace.new.map.entries _ c.args.id c.in-Err.document c.in-Ok-insert.ensures.updates.0
    ∙ (λ i. insert (c.in-Err.ensures.unchanged i) c.args.id (c.in-Err.ensures.handed_back i))
    ∙ ap (λ s. insert s.documents c.args.id c.args.document) c.self.view_is
