use Rattle.std.proofs.Common.{◌≡◌, ◌∙◌, ℕ, Bor, Bool, List, [], ◌∷◌, map, refl, sym, ap, rules, tests}
use Rattle.std.specs.Prelude.{◌||◌}
use Rattle.std.specs.List.{list_any}
use Rattle.std.proofs.lemmas.Iterator.{YieldsList-from_slice}
use Rattle.std.proofs.lemmas.Iterator.Search.{any_from_yields_List}
use Rattle.resh_value.specs.Names.{same_name}
use Rattle.resh_config.proofs.walk.is_listed.Goals as goal

list_any-map : {X Y : Type 0} (p : X → Bool) (h : Y → X) (ys : List Y) → list_any p (map h ys) ≡ list_any (λ y. p (h y)) ys
list_any-map p h [] = refl
list_any-map p h (y ∷ ys) = ap (λ b. p (h y) || b) (list_any-map p h ys)

pub returns : goal.returns
returns c =
    any_from_yields_List (λ (n : Bor (List ℕ)). same_name c.args.name.now n.now) _ _ _ c.any.ensures.ran (YieldsList-from_slice c.args.names.now cc) (λ x b q k. search (rules, tests))
    ∙ sym (list_any-map (same_name c.args.name.now) (λ (n : Bor (List ℕ)). n.now) c.args.names.now)
