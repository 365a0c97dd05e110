-- How deep documents and arrays are.
use Rattle.std.proofs.Common.{ℕ, zero, suc, ◌<◌, ◌≤◌, List, [], ◌∷◌, length, get_or, ◌≡◌, ◌∙◌, arith, map, ap, refl}
use Rattle.resh_value.specs.Depth.{levels_of, levels_step, greatest}
use Rattle.resh_value.specs.derived.OrderFolds.{fold-Doc, fold-Array}
use Rattle.resh_value.specs.declared.value.Value.{Value}
use Rattle.resh_value.specs.declared.value.Value.TheVariants.{Doc, List as Array}

-- the greatest depth of a document's values
abbrev pub deepest : List (List ℕ × Value) → ℕ
deepest fs = greatest (map (λ f. levels_of f.1) fs)

-- the same of a list
abbrev pub items_levels : List Value → ℕ
items_levels xs = greatest (map levels_of xs)

map_twice : {A B C : Type 0} (f : A → B) (g : B → C) (xs : List A) → map g (map f xs) ≡ map (λ x. g (f x)) xs
map_twice f g [] = refl
map_twice f g (x ∷ xs) = ap (λ l. g (f x) ∷ l) (map_twice f g xs)

pub levels-Doc : (fs : List (List ℕ × Value)) → levels_of (Doc fs) ≡ suc (deepest fs)
unfolding levels_of
levels-Doc fs = fold-Doc levels_step fs ∙ ap (λ (ns : List ℕ). suc (greatest ns)) (map_twice (λ (f : List ℕ × Value). (f.0, levels_of f.1)) (λ (f : List ℕ × ℕ). f.1) fs)

pub levels-Array : (xs : List Value) → levels_of (Array xs) ≡ suc (items_levels xs)
unfolding levels_of
levels-Array xs = fold-Array levels_step xs

-- an item is no deeper than its list
pub item_levels : (xs : List Value) (i : ℕ) (x : Value) → i < length xs → x ≡ get_or xs i x → levels_of x ≤ items_levels xs
item_levels [] i x h e = absurd (omega arith)
item_levels (y ∷ ys) zero x h e = omega (arith, ap levels_of e)
item_levels (y ∷ ys) (suc i) x h e = omega (arith, item_levels ys i x (omega arith) e)

pub field_levels : (fs : List (List ℕ × Value)) (i : ℕ) (f : List ℕ × Value) → i < length fs → f ≡ get_or fs i f → levels_of f.1 ≤ deepest fs
field_levels [] i f h e = absurd (omega arith)
field_levels (g ∷ gs) zero f h e = omega (arith, ap (λ (f : List ℕ × Value). levels_of f.1) e)
field_levels (g ∷ gs) (suc i) f h e = omega (arith, field_levels gs i f (omega arith) e)
