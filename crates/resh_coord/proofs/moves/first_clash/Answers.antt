use Rattle.std.proofs.Common.{rules, tests, Option, is_some, length, sym, ◌∙◌}
use Rattle.std.proofs.lemmas.Iterator.{YieldsList-from_slice}
use Rattle.std.proofs.lemmas.Iterator.Search.{position_from_yields_List}
use Rattle.std.specs.List.{position_or_len}
use Rattle.resh_value.specs.declared.value.Value.{Value}
use Rattle.resh_coord.proofs.Finding.{found_at, not_found, within}
use Rattle.resh_coord.proofs.moves.first_clash.Goals as goal

pub returns-in-Some-clause-first : goal.returns-in-Some-clause-first
returns-in-Some-clause-first c =
    let found = position_from_yields_List (λ (clash : Option Value). is_some clash) _ _ _ c.position.ensures.ran (YieldsList-from_slice c.args.clashes.now cc) (λ x b q k. search (rules, tests)) in
    found_at (position_or_len is_some c.args.clashes.now) (length c.args.clashes.now) c.in-Some.place (sym found ∙ c.in-Some.is)

pub returns-in-None-clause-first : goal.returns-in-None-clause-first
returns-in-None-clause-first c =
    let found = position_from_yields_List (λ (clash : Option Value). is_some clash) _ _ _ c.position.ensures.ran (YieldsList-from_slice c.args.clashes.now cc) (λ x b q k. search (rules, tests)) in
    not_found (position_or_len is_some c.args.clashes.now) (length c.args.clashes.now) (sym found ∙ c.in-None.is) (within is_some c.args.clashes.now)
