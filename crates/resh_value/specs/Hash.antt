-- What a hasher is fed with for a value.
use Rattle.std.specs.Prelude.{ℕ, List, [], ◌++◌}
use Rattle.std.specs.Hash as fed
use Rattle.std.specs.Hash.{HashWrites}
use Rattle.resh_value.specs.Order.{rank}
use Rattle.resh_value.specs.declared.value.Value.{Value, fold-Value, out-Value}
use Rattle.resh_value.specs.declared.value.Value.TheOpen.{Value-F}

-- a field's name and value, by what stands for a value
abbrev pub field_input : {A : Type 0} → (A → HashWrites) → List ℕ × A → HashWrites
field_input of f = fed.str f.0 ++ of f.1

abbrev pub content_input : {A : Type 0} → (A → HashWrites) → Value-F A → HashWrites
content_input of Value-F.Null = []
content_input of (Value-F.Int n) = fed.i64 n
content_input of (Value-F.Text t) = fed.str t
content_input of (Value-F.Doc fs) = fed.slice (field_input of) fs
content_input of (Value-F.List xs) = fed.slice of xs
content_input of (Value-F.Oid s) = fed.slice fed.u8 s
content_input of (Value-F.Bool b) = fed.bool b
content_input of (Value-F.Date n) = fed.i64 n

-- the kind, and then what the value holds
unfoldable pub input_of : Value → HashWrites
input_of = fold-Value HashWrites (λ x. fed.u8 (rank x) ++ content_input (λ w. w) x)

abbrev pub content_input_of : Value → HashWrites
content_input_of v = content_input input_of (out-Value v)

abbrev pub document_input : List (List ℕ × Value) → HashWrites
document_input = fed.slice (field_input input_of)
