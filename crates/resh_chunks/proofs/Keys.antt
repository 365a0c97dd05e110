-- Patterns without fault, and the keys under them.
use Rattle.std.proofs.Common.{◌≡◌, ℕ, ◌<◌, ◌≤◌, List, [], ◌∷◌, length, map, take, Option, Some, None, option_map, cond, ◌||◌, true, false, Bool, refl, arith, ltb, Bor}
use Rattle.std.proofs.lemmas.Bool.Decides.{nat_tests}
use Rattle.resh_value.specs.declared.value.Value.{Value}
use Rattle.resh_chunks.specs.declared.faults.PatternFault.TheVariants.{Count, Repeated}
use Rattle.resh_chunks.specs.Pattern.{pattern_fault, first_repeat, key_of, value_at}

pub one_name : (names : List (List ℕ)) → 1 ≤ length names → length names < 2 → None ≡ pattern_fault names
one_name [] h k = absurd (omega arith)
one_name (name ∷ []) h k = refl
one_name (name ∷ next ∷ names) h k = absurd (omega arith)

pub at_most_three : (names : List (List ℕ)) → pattern_fault names ≡ None → length names ≤ 3
at_most_three names e = by (ltb (length names) 1) (ltb 3 (length names)) (first_repeat [] names) refl e
  where
    by : (few many : Bool) (repeat : Option ℕ) → ltb 3 (length names) ≡ many → cond (few || many) (Some (Count (length names))) (option_map Repeated repeat) ≡ None → length names ≤ 3
    by false false repeat m e = grind (arith, nat_tests)
    by true many repeat m e = cc
    by false true repeat m e = cc

-- the values at the first three places are those of the key
pub key_of_three : (names : List (List ℕ)) (document : List (List ℕ × Value)) (a b c : Bor Value) → length names ≤ 3
    → a.now ≡ value_at names document 0 → b.now ≡ value_at names document 1 → c.now ≡ value_at names document 2
    → map (λ v. v.now) (take (length names) (a ∷ b ∷ c ∷ [])) ≡ key_of names document
key_of_three [] document a b c n i j k = refl
key_of_three (x ∷ []) document a b c n i j k = λ t. i t ∷ []
key_of_three (x ∷ y ∷ []) document a b c n i j k = λ t. i t ∷ j t ∷ []
key_of_three (x ∷ y ∷ z ∷ []) document a b c n i j k = λ t. i t ∷ j t ∷ k t ∷ []
key_of_three (x ∷ y ∷ z ∷ w ∷ names) document a b c n i j k = absurd (omega arith)
