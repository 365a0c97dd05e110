use Rattle.std.proofs.Common.{rules, tests, is_some, ◌∙◌}
use Rattle.std.specs.FinMap.{get}
use Rattle.std.proofs.lemmas.Iterator.{YieldsList-from_slice}
use Rattle.std.proofs.lemmas.Iterator.Search.{position_from_yields_List}
use Rattle.resh_stash.specs.Stored.{StashOf}
use Rattle.resh_rules.proofs.Writing.{first_place}
use Rattle.resh_rules.proofs.shelf.first_holding.Goals as goal

pub returns : goal.returns
returns c =
    position_from_yields_List (λ (s : StashOf). is_some (get s.documents c.args.id.now)) _ _ _ c.position.ensures.ran (YieldsList-from_slice c.args.stashes.now cc) (λ x b q k. search (rules, tests))
    ∙ first_place c.args.stashes.now c.args.id.now
