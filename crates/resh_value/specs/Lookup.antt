-- A document's fields by name.
use Rattle.std.specs.Prelude.{◌≡◌, ℕ, Bool, ◌<◌, ◌≤◌, List, Option, Some, None, length, slice_get, slice_set, insert, remove, unwrap_or, is_some, codes}
use Rattle.std.specs.BTreeMap.{is_at, insert_entry}
use Rattle.std.specs.Map.{lookup, remove_entry}
use Rattle.resh_value.specs.Names.{name_cmp, HasRisingNames}
use Rattle.resh_value.specs.declared.value.Value.{Value}
use Rattle.resh_value.specs.declared.value.Value.TheVariants.{Null}

-- what stands under a name
abbrev pub field_of : {X : Type 0} → List (List ℕ × X) → List ℕ → Option X
field_of fields name = lookup (is_at (name_cmp name)) fields

-- what a document has under a name, null where it has nothing
abbrev pub value_under : List (List ℕ × Value) → List ℕ → Value
value_under document name = unwrap_or (field_of document name) Null

-- the value under `_id`, by which a document is known on its shard; null where it has none
abbrev pub id_of : List (List ℕ × Value) → Value
id_of document = value_under document (codes "_id")

abbrev pub has_id : List (List ℕ × Value) → Bool
has_id document = is_some (field_of document (codes "_id"))

-- the fields with a value under a name, in its place or new
abbrev pub with_field : {X : Type 0} → List (List ℕ × X) → List ℕ → X → List (List ℕ × X)
with_field fields name value = insert_entry name_cmp fields name value

abbrev pub without_field : {X : Type 0} → List (List ℕ × X) → List ℕ → List (List ℕ × X)
without_field fields name = remove_entry (is_at (name_cmp name)) fields

-- a name's field stands at a place: it is found, replaced and removed there
pub record StandsAt {X : Type 0} (fields : List (List ℕ × X)) (name : List ℕ) (place : ℕ) : Type 0 where
  pub within : place < length fields
  pub found : (value : X) → slice_get fields place ≡ Some (name, value) → field_of fields name ≡ Some value
  pub named : (other : List ℕ) (value : X) → slice_get fields place ≡ Some (other, value) → other ≡ name
  pub replaced : (value : X) → slice_set fields place (name, value) ≡ with_field fields name value
  pub rises : (value : X) → HasRisingNames (slice_set fields place (name, value))
  pub removed : remove fields place ≡ without_field fields name
  pub rest_rises : HasRisingNames (remove fields place)

-- no field has the name, and a new one goes to a place
pub record GoesTo {X : Type 0} (fields : List (List ℕ × X)) (name : List ℕ) (place : ℕ) : Type 0 where
  pub within : place ≤ length fields
  pub missing : field_of fields name ≡ None
  pub inserted : (value : X) → insert fields place (name, value) ≡ with_field fields name value
  pub rises : (value : X) → HasRisingNames (insert fields place (name, value))
  pub kept : fields ≡ without_field fields name
