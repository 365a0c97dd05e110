-- Paths into documents: a list of names, each but the last of an embedded document.
use Rattle.std.specs.Prelude.{ℕ, Bool, true, false, ◌||◌, List, [], ◌∷◌, Option, Some, None, unwrap_or}
use Rattle.std.specs.List.{starts_with, join_with_byte}
use Rattle.resh_value.specs.Names.{same_name}
use Rattle.resh_value.specs.Lookup.{field_of, with_field, without_field}
use Rattle.resh_value.specs.declared.value.Value.{Value, out-Value}
use Rattle.resh_value.specs.declared.value.Value.TheVariants.{Doc}
use Rattle.resh_value.specs.declared.value.Value.TheOpen.{Value-F}
use Rattle.resh_ops.specs.declared.path.Reached.{Reached as Answer}
use Rattle.resh_ops.specs.declared.path.Reached.TheVariants.{Here, Missing, Scalar}

abbrev pub Document : Type 0
Document = List (List ℕ × Value)

abbrev pub Path : Type 0
Path = List (List ℕ)

-- what a path reaches: a value, a field that is missing, or a value on its way that is no document
pub data Reached : Type 0 where
  here : Value → Reached
  missing : Reached
  scalar : Reached

-- the same, where an answer of the program borrows the value
abbrev pub reached : Answer → Reached
reached (Here value) = here value.now
reached Missing = missing
reached Scalar = scalar

abbrev pub is_scalar : Reached → Bool
is_scalar (here value) = false
is_scalar missing = false
is_scalar scalar = true

abbrev pub found : Option Value → Reached
found (Some value) = here value
found None = missing

-- a value's fields, where it is a document
abbrev pub fields_in : Value-F Value → Option Document
fields_in (Value-F.Doc fields) = Some fields
fields_in other = None

-- the document that a field holds; a missing field counts as an empty one
abbrev pub embedded : Option Value → Option Document
embedded (Some value) = fields_in (out-Value value)
embedded None = Some []

-- into the document there, if it is one
abbrev pub within : (Document → Reached) → Option Document → Reached
within into (Some document) = into document
within into None = scalar

abbrev pub reach : Path → Document → Reached
reach [] document = missing
reach (name ∷ []) document = found (field_of document name)
reach (name ∷ next ∷ rest) document = within (λ inner. reach (next ∷ rest) inner) (embedded (field_of document name))

-- the document with a value at a path; embedded documents that are missing are made
abbrev pub write : Path → Value → Document → Document
write [] value document = document
write (name ∷ []) value document = with_field document name value
write (name ∷ next ∷ rest) value document =
    with_field document name (Doc (write (next ∷ rest) value (unwrap_or (embedded (field_of document name)) [])))

-- the document without the field that a path reaches
abbrev pub erase : Path → Document → Document
erase [] document = document
erase (name ∷ []) document = without_field document name
erase (name ∷ next ∷ rest) document =
    with_field document name (Doc (erase (next ∷ rest) (unwrap_or (embedded (field_of document name)) [])))

-- a path's names, joined by dots
abbrev pub dotted : Path → List ℕ
dotted path = join_with_byte 46 path

-- one of two paths begins the other, or they are equal
abbrev pub is_related : Path → Path → Bool
is_related a b = starts_with same_name a b || starts_with same_name b a
