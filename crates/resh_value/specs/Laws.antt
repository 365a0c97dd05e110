-- What a document is: values by name, and nothing else.
use Rattle.std.specs.Prelude.{◌≡◌, ◌≢◌, ℕ, List, Some, None}
use Rattle.resh_value.specs.Names.{HasRisingNames}
use Rattle.resh_value.specs.Lookup.{field_of, with_field, without_field}
use Rattle.resh_value.specs.Change.{changed, changed_value, is_among}

-- a value that is put stands under its name, and each other name has what it had
pub record PutsOne (X : Type 0) : Type 0 where
  pub there : (fields : List (List ℕ × X)) (name : List ℕ) (value : X)
      → field_of (with_field fields name value) name ≡ Some value
  pub elsewhere : (fields : List (List ℕ × X)) (name other : List ℕ) (value : X) → other ≢ name
      → field_of (with_field fields name value) other ≡ field_of fields other
  pub rises : (fields : List (List ℕ × X)) (name : List ℕ) (value : X) → HasRisingNames fields
      → HasRisingNames (with_field fields name value)

-- nothing stands under a name that is removed, and each other name has what it had
pub record RemovesOne (X : Type 0) : Type 0 where
  pub there : (fields : List (List ℕ × X)) (name : List ℕ) → HasRisingNames fields
      → field_of (without_field fields name) name ≡ None
  pub elsewhere : (fields : List (List ℕ × X)) (name other : List ℕ) → other ≢ name
      → field_of (without_field fields name) other ≡ field_of fields other
  pub rises : (fields : List (List ℕ × X)) (name : List ℕ) → HasRisingNames fields
      → HasRisingNames (without_field fields name)

-- fields that have the same under each name are the same
abbrev pub SameByName : Type 0 → Type 0
SameByName X = (fields others : List (List ℕ × X)) → HasRisingNames fields → HasRisingNames others
    → ((name : List ℕ) → field_of fields name ≡ field_of others name) → fields ≡ others

-- a change assigns, unsets or leaves each name
abbrev pub ChangesByName : Type 0 → Type 0
ChangesByName X = (assign fields : List (List ℕ × X)) (unset : List (List ℕ)) (name : List ℕ) → HasRisingNames assign
    → HasRisingNames fields
    → field_of (changed assign unset fields) name
    ≡ changed_value (field_of assign name) (is_among unset name) (field_of fields name)
