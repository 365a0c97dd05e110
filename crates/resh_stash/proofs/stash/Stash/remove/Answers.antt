use Rattle.std.proofs.Common.{ap, ◌∙◌}
use Rattle.std.specs.FinMap.{get, remove}
use Rattle.std.specs.Option.{option_map}
use Rattle.resh_stash.specs.Stored.{Document}
use Rattle.resh_stash.proofs.Gathered.{gathered_without, taken_entry}
use Rattle.resh_stash.proofs.stash.Stash.remove.Goals as goal

pub returns-clause-taken : goal.returns-clause-taken
returns-clause-taken c =
    let e = c.swap_remove_entry.ensures in
    taken_entry c.self.inside.documents.entries c.args.id.now c.swap_remove_entry.result e.key e.value
    ∙ ap (λ s. option_map (λ (d : Document). (c.args.id.now, d)) (get s.documents c.args.id.now)) c.self.view_is

pub returns-clause-rest : goal.returns-clause-rest
returns-clause-rest c =
    gathered_without c.self.inside.documents.entries _ c.args.id.now c.swap_remove_entry.ensures.updates.0 ∙ ap (λ s. remove s.documents c.args.id.now) c.self.view_is
