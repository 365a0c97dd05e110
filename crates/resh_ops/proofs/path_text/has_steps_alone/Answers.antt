use Rattle.std.proofs.Common.{◌∙◌, ℕ, Bor, List, sym, rules, tests}
use Rattle.std.proofs.lemmas.Iterator.{YieldsList-from_slice}
use Rattle.std.proofs.lemmas.Iterator.Search.{all_from_yields_List}
use Rattle.std.proofs.lemmas.List.Folds.{list_all-map}
use Rattle.resh_ops.specs.Reading.{is_step}
use Rattle.resh_ops.proofs.path_text.has_steps_alone.Goals as goal

pub returns : goal.returns
returns c =
    all_from_yields_List (λ (n : Bor (List ℕ)). is_step n.now) _ _ _ c.all.ensures.ran (YieldsList-from_slice c.args.names.now cc) (λ x b q k. search (rules, tests))
    ∙ sym (list_all-map is_step (λ (n : Bor (List ℕ)). n.now) c.args.names.now)
