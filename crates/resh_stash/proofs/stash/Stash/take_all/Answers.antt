use Rattle.std.proofs.Common.{ap, ◌∙◌}
use Rattle.std.specs.FinMap.{values}
use Rattle.resh_stash.specs.Stored.{gathered}
use Rattle.resh_stash.proofs.Gathered.{gathered_none}
use Rattle.resh_stash.proofs.InOrder.{values_in_order}
use Rattle.resh_stash.proofs.stash.Stash.take_all.Goals as goal

pub returns-clause-ok : goal.returns-clause-ok
returns-clause-ok c =
    let sorted = c.in_ok-sort_unstable_keys.ensures in
    c.from_vec.ensures ∙ c.move_all.ensures.moved ∙ values_in_order c.self.inside.documents.entries c.sort_unstable_keys.new.self.entries sorted.sorted sorted.unique sorted.reordered.2
    ∙ ap (λ s. values s.documents) c.self.view_is

pub returns-clause-emptied : goal.returns-clause-emptied
returns-clause-emptied c = ap gathered c.move_all.ensures.emptied ∙ gathered_none
