-- What a document that is stored promises, and what a change of one does.
use Rattle.std.specs.Prelude.{◌≡◌, ◌≢◌, ◌↔◌, ℕ, Bool, true, false, ◌&&◌, List, codes}
use Rattle.std.specs.FinMap.{is_sorted}
use Rattle.resh_value.specs.Change.{changed, is_named}
use Rattle.resh_value.specs.Lookup.{field_of, with_field, without_field, has_id}
use Rattle.resh_value.specs.Names.{name_cmp, HasRisingNames}
use Rattle.resh_value.specs.declared.value.Value.{Value}

-- each name is above the one before it, as a test
abbrev pub has_rising_names : {X : Type 0} → List (List ℕ × X) → Bool
has_rising_names fields = is_sorted name_cmp fields

-- a document that is stored has rising names and an `_id`
pub record IsWhole (document : List (List ℕ × Value)) : Type 0 where
  pub rising : HasRisingNames document
  pub id : has_id document ≡ true

abbrev pub is_whole : List (List ℕ × Value) → Bool
is_whole document = has_rising_names document && has_id document

-- the tests say what the relations say
abbrev pub RisesByTest : Type 0 → Type 0
RisesByTest X = (fields : List (List ℕ × X)) → (has_rising_names fields ≡ true) ↔ HasRisingNames fields

abbrev pub WholeByTest : Type 0
WholeByTest = (document : List (List ℕ × Value)) → (is_whole document ≡ true) ↔ IsWhole document

-- what leaves a document whole
pub record StaysWhole : Type 0 where
  -- any field that is put, and any but `_id` that is removed
  pub put : (document : List (List ℕ × Value)) (name : List ℕ) (value : Value) → IsWhole document
      → IsWhole (with_field document name value)
  pub removed : (document : List (List ℕ × Value)) (name : List ℕ) → name ≢ codes "_id" → IsWhole document
      → IsWhole (without_field document name)
  -- a change that doesn't name `_id`
  pub changed : (document assign : List (List ℕ × Value)) (unset : List (List ℕ)) → HasRisingNames assign
      → is_named assign unset (codes "_id") ≡ false
      → IsWhole document → IsWhole (changed assign unset document)

-- a document whose names rise is whole once it is given an `_id`
abbrev pub WholeWithId : Type 0
WholeWithId = (document : List (List ℕ × Value)) (id : Value) → HasRisingNames document
    → IsWhole (with_field document (codes "_id") id)

-- a change that doesn't name a field leaves it
abbrev pub LeavesUnnamed : Type 0 → Type 0
LeavesUnnamed X = (fields assign : List (List ℕ × X)) (unset : List (List ℕ)) (name : List ℕ) → HasRisingNames assign
    → HasRisingNames fields
    → is_named assign unset name ≡ false → field_of (changed assign unset fields) name ≡ field_of fields name
