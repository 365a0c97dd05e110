-- The value and the document that a JSON value is, or the first fault of the walk through it.
use Rattle.std.specs.Prelude.{ℕ, ◌+◌, ◌^◌, pos, Bool, true, false, ◌||◌, cond, ◌==◌, nat_lt, List, [], ◌∷◌, ◌++◌, slice_index, Option, Some, None, Result, Ok, Err}
use Rattle.serde_json.specs.Data.{Num, unsigned, negative, float, Data, null, boolean, number, string, array, object, Items, no_items, item, Members, no_members, member}
use Rattle.resh_value.specs.Limits.{dollar}
use Rattle.resh_value.specs.Outcome.{◌>>=◌, in_err}
use Rattle.resh_value.specs.Paths.{to_name, to_place}
use Rattle.resh_value.specs.Tags.{tag_of}
use Rattle.resh_value.specs.Walk.{Walked, ends, at_step as walked_at}
use Rattle.resh_value.specs.declared.value.Value.{Value}
use Rattle.resh_value.specs.declared.value.Value.TheVariants.{Null, Int, Text, Doc, List as Array, Bool as Boolean}
use Rattle.resh_value.specs.declared.fault.ValueFault.{ValueFault}
use Rattle.resh_value.specs.declared.fault.ValueFault.TheVariants.{NotWhole, BadTag, TooDeep, DollarName, NotDocument, NoMemory}
use Rattle.resh_value.specs.declared.fault.ValueFaultKind.{ValueFaultKind}
use Rattle.resh_value.specs.declared.fault.ValueFaultKind.TheVariants as kind
use Rattle.resh_value.specs.declared.walk_fault.WalkFault.{WalkFault}
use Rattle.resh_value.specs.declared.walk_fault.WalkFault.TheVariants.{At, NoMemory as NoRoom}

abbrev pub Read : Type 0 → Type 0
Read A = Walked ValueFaultKind A

-- arrays and objects nest up to level 32
abbrev pub is_too_deep : ℕ → Bool
is_too_deep level = nat_lt 32 level

-- a number is whole where 64 bits hold it with its sign
abbrev pub whole : Num → Read Value
whole (unsigned n) = cond (nat_lt n (2 ^ 63)) (Ok (Int (pos n))) (ends kind.NotWhole)
whole (negative z) = Ok (Int z)
whole (float x) = ends kind.NotWhole

abbrev pub is_dollar_name : List ℕ → Bool
is_dollar_name name = slice_index name 0 == dollar

abbrev pub has_dollar_name : Members → Bool
has_dollar_name no_members = false
has_dollar_name (member name content rest) = is_dollar_name name || has_dollar_name rest

-- an object's value, from its tag if it has one, and else from its members
abbrev pub object_value : Option (Option Value) → Bool → Read (List (List ℕ × Value)) → Read Value
object_value (Some (Some v)) has_dollar fields = Ok v
object_value (Some None) has_dollar fields = ends kind.BadTag
object_value None true fields = ends kind.DollarName
object_value None false fields = fields >>= λ fs. Ok (Doc fs)

abbrev mutual
  pub value_at : ℕ → Data → Read Value
  value_at level null = Ok Null
  value_at level (boolean b) = Ok (Boolean b)
  value_at level (number n) = whole n
  value_at level (string text) = Ok (Text text)
  value_at level (array items) =
      cond (is_too_deep level) (ends kind.TooDeep) (items_at (level + 1) 0 items >>= λ vs. Ok (Array vs))
  value_at level (object members) =
      cond (is_too_deep level) (ends kind.TooDeep)
      (object_value (tag_of members) (has_dollar_name members) (members_at (level + 1) members))

  -- the items of an array, from a place on
  pub items_at : ℕ → ℕ → Items → Read (List Value)
  items_at level place no_items = Ok []
  items_at level place (item d ds) =
      walked_at (to_place place) (value_at level d) >>= λ v.
      items_at level (place + 1) ds >>= λ vs.
      Ok (v ∷ vs)

  -- the members of an object, in the order of their names
  pub members_at : ℕ → Members → Read (List (List ℕ × Value))
  members_at level no_members = Ok []
  members_at level (member name d ds) =
      walked_at (to_name name) (value_at level d) >>= λ v.
      members_at level ds >>= λ fs.
      Ok ((name, v) ∷ fs)

-- a value that is read by itself stands at level 1
abbrev pub walked_value : Data → Read Value
walked_value = value_at 1

-- a document is an object that isn't looked at as a tag
abbrev pub walked_document : Data → Read (List (List ℕ × Value))
walked_document (object members) = cond (has_dollar_name members) (ends kind.DollarName) (members_at 2 members)
walked_document null = ends kind.NotDocument
walked_document (boolean b) = ends kind.NotDocument
walked_document (number n) = ends kind.NotDocument
walked_document (string text) = ends kind.NotDocument
walked_document (array items) = ends kind.NotDocument

-- the fault that is answered
abbrev pub fault_at : ValueFaultKind → List ℕ → ValueFault
fault_at kind.NotWhole path = NotWhole path
fault_at kind.BadTag path = BadTag path
fault_at kind.TooDeep path = TooDeep path
fault_at kind.DollarName path = DollarName path
fault_at kind.NotDocument path = NotDocument path

abbrev pub fault_of : WalkFault ValueFaultKind → ValueFault
fault_of (At path found) = fault_at found path
fault_of NoRoom = NoMemory

abbrev pub value_of : Data → Result Value ValueFault
value_of d = in_err fault_of (walked_value d)

abbrev pub document_of : Data → Result (List (List ℕ × Value)) ValueFault
document_of d = in_err fault_of (walked_document d)

-- a fault that is answered, as it is seen from the path's beginning
abbrev pub under : List ℕ → ValueFault → ValueFault
under step (NotWhole path) = NotWhole (step ++ path)
under step (BadTag path) = BadTag (step ++ path)
under step (TooDeep path) = TooDeep (step ++ path)
under step (DollarName path) = DollarName (step ++ path)
under step (NotDocument path) = NotDocument (step ++ path)
under step NoMemory = NoMemory

abbrev pub at_step : {A : Type 0} → List ℕ → Result A ValueFault → Result A ValueFault
at_step step r = in_err (under step) r
