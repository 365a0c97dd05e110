use Rattle.std.proofs.Common.{◌≡◌, ◌∷◌, ◌++◌, List, ℕ, take, map, flat_map}
use Rattle.json.specs.Token.{Token, key}
use Rattle.resh_value.specs.Text.{tokens_of}
use Rattle.resh_value.specs.declared.value.Value.{Value}
use Rattle.resh_value.proofs.+write.Given as goal

abbrev pub invariant-text::Fields+Value::write-loop-name :
    goal.invariant-text::Fields+Value::write-loop-name
invariant-text::Fields+Value::write-loop-name l =
    (l.writer.before ≡ l.initial.writer.before)
    × (l.writer.tokens ≡ l.initial.writer.tokens ++ flat_map (λ (f : List ℕ × List Token). key f.0 ∷ f.1) (map (λ (f : List ℕ × Value). (f.0, tokens_of f.1)) (take l.name-index l.name-items)))

abbrev pub invariant-text::write_items-loop-item : goal.invariant-text::write_items-loop-item
invariant-text::write_items-loop-item l =
    (l.writer.before ≡ l.initial.writer.before) × (l.writer.tokens ≡ l.initial.writer.tokens ++ flat_map (λ ts. ts) (map tokens_of (take l.item-index l.item-items)))
