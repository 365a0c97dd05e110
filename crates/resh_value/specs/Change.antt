-- A change of top-level fields.
use Rattle.std.specs.Prelude.{ℕ, Bool, true, false, ◌||◌, List, [], ◌∷◌, Option, Some, None, is_none, is_some}
use Rattle.std.specs.BTreeMap.{is_at}
use Rattle.std.specs.List.{list_all, list_any}
use Rattle.resh_value.specs.Names.{name_cmp}
use Rattle.resh_value.specs.Lookup.{field_of, with_field, without_field}

-- the fields without these names
abbrev pub without_fields : {X : Type 0} → List (List ℕ × X) → List (List ℕ) → List (List ℕ × X)
without_fields fields [] = fields
without_fields fields (name ∷ names) = without_fields (without_field fields name) names

-- the fields with these values under their names
abbrev pub with_fields : {X : Type 0} → List (List ℕ × X) → List (List ℕ × X) → List (List ℕ × X)
with_fields fields [] = fields
with_fields fields (f ∷ fs) = with_fields (with_field fields f.0 f.1) fs

-- the fields after a change: its names are gone, and its values are assigned
abbrev pub changed : {X : Type 0} → List (List ℕ × X) → List (List ℕ) → List (List ℕ × X) → List (List ℕ × X)
changed assign unset fields = with_fields (without_fields fields unset) assign

-- no name is both assigned and unset
abbrev pub are_apart : {X : Type 0} → List (List ℕ × X) → List (List ℕ) → Bool
are_apart assign unset = list_all (λ name. is_none (field_of assign name)) unset

-- the name is one of these
abbrev pub is_among : List (List ℕ) → List ℕ → Bool
is_among names name = list_any (is_at (name_cmp name)) names

-- a change assigns or unsets the name
abbrev pub is_named : {X : Type 0} → List (List ℕ × X) → List (List ℕ) → List ℕ → Bool
is_named assign unset name = is_some (field_of assign name) || is_among unset name

-- what a change makes of one field: from what it assigns there, whether it unsets it, and what stood there
abbrev pub changed_value : {X : Type 0} → Option X → Bool → Option X → Option X
changed_value (Some value) gone old = Some value
changed_value None true old = None
changed_value None false old = old
