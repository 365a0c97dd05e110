-- Patterns of shard keys.
use Rattle.std.specs.Prelude.{ℕ, cond, ◌||◌, nat_lt, List, [], ◌∷◌, ◌++◌, length, map, slice_get, Option, Some, None, unwrap_or, option_map}
use Rattle.std.specs.List.{list_any}
use Rattle.resh_value.specs.Names.{same_name}
use Rattle.resh_value.specs.Lookup.{value_under}
use Rattle.resh_value.specs.declared.value.Value.{Value}
use Rattle.resh_value.specs.declared.value.Value.TheVariants.{Null}
use Rattle.resh_chunks.specs.declared.faults.PatternFault.{PatternFault}
use Rattle.resh_chunks.specs.declared.faults.PatternFault.TheVariants.{Count, Repeated}

-- the place of the first name that an earlier one equals, where `before` stand before `names`
abbrev pub first_repeat : List (List ℕ) → List (List ℕ) → Option ℕ
first_repeat before [] = None
first_repeat before (name ∷ names) =
    cond (list_any (same_name name) before) (Some (length before)) (first_repeat (before ++ name ∷ []) names)

abbrev pub pattern_fault : List (List ℕ) → Option PatternFault
pattern_fault names =
    cond (nat_lt (length names) 1 || nat_lt 3 (length names)) (Some (Count (length names)))
    (option_map Repeated (first_repeat [] names))

-- the values that a document has under the pattern's names
abbrev pub key_of : List (List ℕ) → List (List ℕ × Value) → List Value
key_of pattern document = map (value_under document) pattern

-- the value at a place of that key, null behind its end
abbrev pub value_at : List (List ℕ) → List (List ℕ × Value) → ℕ → Value
value_at pattern document place = unwrap_or (slice_get (key_of pattern document) place) Null
