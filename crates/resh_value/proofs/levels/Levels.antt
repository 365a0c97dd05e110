-- The greatest of numbers, and the levels of a document.
use Rattle.std.proofs.Common.{◌≡◌, ℕ, suc, List, map, ap, ◌∙◌, rules}
use Rattle.std.proofs.lemmas.Simd.{map-map}
use Rattle.resh_value.specs.Depth.{greatest, levels_of, document_levels}
use Rattle.resh_value.specs.declared.value.Value.{Value, the_lemmas}
use Rattle.resh_value.specs.declared.value.Value.TheVariants.{Doc}

pub levels-Doc : (fields : List (List ℕ × Value)) → levels_of (Doc fields) ≡ document_levels fields
unfolding levels_of
levels-Doc fields =
    let folded : levels_of (Doc fields) ≡ suc (greatest (map (λ (f : List ℕ × ℕ). f.1) (map (λ (f : List ℕ × Value). (f.0, levels_of f.1)) fields))) = search (rules, the_lemmas) in
    folded ∙ ap (λ ns. suc (greatest ns)) (map-map (λ (f : List ℕ × ℕ). f.1) (λ (f : List ℕ × Value). (f.0, levels_of f.1)) fields)
