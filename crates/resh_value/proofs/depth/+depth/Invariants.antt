use Rattle.std.proofs.Common.{◌≡◌, ◌-◌, ◌^◌, ℕ, List, min, max, drop, map}
use Rattle.resh_value.specs.Depth.{greatest, levels_of}
use Rattle.resh_value.specs.declared.value.Value.{Value}
use Rattle.resh_value.proofs.depth.+depth.Given as goal

abbrev pub invariant-Fields+Value::depth-loop-value : goal.invariant-Fields+Value::depth-loop-value
invariant-Fields+Value::depth-loop-value l =
    min (max l.deepest (greatest (map (λ (f : List ℕ × Value). levels_of f.1) (drop l.value-index l.value-items)))) (2 ^ 32 - 1)
    ≡ min (greatest (map (λ (f : List ℕ × Value). levels_of f.1) l.value-items)) (2 ^ 32 - 1)

abbrev pub invariant-items_levels-loop-item : goal.invariant-items_levels-loop-item
invariant-items_levels-loop-item l =
    min (max l.deepest (greatest (map levels_of (drop l.item-index l.item-items)))) (2 ^ 32 - 1) ≡ min (greatest (map levels_of l.item-items)) (2 ^ 32 - 1)
