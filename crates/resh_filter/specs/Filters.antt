-- Filters: what is read as one, what one gives, and which documents it matches.
use Rattle.std.specs.Prelude.{◌≡◌, ℕ, Bool, cond, ◌==◌, List, ◌++◌, Option, Some, None, is_some, Result}
use Rattle.std.specs.List.{list_all, list_any}
use Rattle.std.specs.Ordering.{is_eq}
use Rattle.serde_json.specs.Data.{Data, null, boolean, number, string, array, object, Members, no_members, member}
use Rattle.resh_value.specs.FromJson.{walked_document, fault_at as value_fault_at, under as value_under_step}
use Rattle.resh_value.specs.Limits.{dot}
use Rattle.resh_value.specs.Lookup.{field_of, value_under}
use Rattle.resh_value.specs.Order.{compare_of}
use Rattle.resh_value.specs.Outcome.{in_err}
use Rattle.resh_value.specs.Paths.{to_name}
use Rattle.resh_value.specs.Walk.{Walked, as_kind, at_step as walked_at, ends}
use Rattle.resh_value.specs.declared.fault.ValueFaultKind.{ValueFaultKind}
use Rattle.resh_value.specs.declared.value.Value.{Value}
use Rattle.resh_value.specs.declared.walk_fault.WalkFault.{WalkFault}
use Rattle.resh_value.specs.declared.walk_fault.WalkFault.TheVariants.{At, NoMemory as NoRoom}
use Rattle.resh_filter.specs.declared.fault.FilterFault.{FilterFault}
use Rattle.resh_filter.specs.declared.fault.FilterFault.TheVariants.{DottedName, Value as InValue, NoMemory}
use Rattle.resh_filter.specs.declared.fault.FilterFaultKind.{FilterFaultKind}
use Rattle.resh_filter.specs.declared.fault.FilterFaultKind.TheVariants as kind

abbrev pub Read : Type 0 → Type 0
Read A = Walked FilterFaultKind A

-- a name with a dot in it
abbrev pub is_dotted : List ℕ → Bool
is_dotted name = list_any (λ byte. byte == dot) name

-- the first dotted name, in byte order
abbrev pub first_dotted : Members → Option (List ℕ)
first_dotted no_members = None
first_dotted (member name content rest) = cond (is_dotted name) (Some name) (first_dotted rest)

abbrev pub dotted_in : Data → Option (List ℕ)
dotted_in (object members) = first_dotted members
dotted_in null = None
dotted_in (boolean b) = None
dotted_in (number n) = None
dotted_in (string text) = None
dotted_in (array items) = None

-- the document that was read, unless a name is dotted
abbrev pub undotted : Option (List ℕ) → Walked ValueFaultKind (List (List ℕ × Value)) → Read (List (List ℕ × Value))
undotted (Some name) document = walked_at (to_name name) (ends kind.DottedName)
undotted None document = in_err (as_kind kind.Value) document

-- a filter is a document without dotted names; its names are looked at before its values
abbrev pub walked_filter : Data → Read (List (List ℕ × Value))
walked_filter json = undotted (dotted_in json) (walked_document json)

-- the fault that is answered
abbrev pub fault_at : FilterFaultKind → List ℕ → FilterFault
fault_at kind.DottedName path = DottedName path
fault_at (kind.Value found) path = InValue (value_fault_at found path)

abbrev pub fault_of : WalkFault FilterFaultKind → FilterFault
fault_of (At path found) = fault_at found path
fault_of NoRoom = NoMemory

abbrev pub filter_of : Data → Result (List (List ℕ × Value)) FilterFault
filter_of json = in_err fault_of (walked_filter json)

-- a fault that is answered, as it is seen from the path's beginning
abbrev pub under : List ℕ → FilterFault → FilterFault
under step (DottedName path) = DottedName (step ++ path)
under step (InValue fault) = InValue (value_under_step step fault)
under step NoMemory = NoMemory

abbrev pub at_step : {A : Type 0} → List ℕ → Result A FilterFault → Result A FilterFault
at_step step r = in_err (under step) r

-- the document has an equal value under the pair's name, null where it has nothing
abbrev pub agrees : List (List ℕ × Value) → List ℕ × Value → Bool
agrees document pair = is_eq (compare_of pair.1 (value_under document pair.0))

-- each pair of the filter agrees
abbrev pub matches : List (List ℕ × Value) → List (List ℕ × Value) → Bool
matches filter document = list_all (agrees document) filter

-- the document has each value of the filter under its name, null where it has nothing
abbrev pub HasValues : List (List ℕ × Value) → List (List ℕ × Value) → Type 0
HasValues document filter = (name : List ℕ) (value : Value) → field_of filter name ≡ Some value
    → value_under document name ≡ value

-- the filter has a pair of the name
abbrev pub gives : List (List ℕ × Value) → List ℕ → Bool
gives filter name = is_some (field_of filter name)
