-- The change that leads from a document to another: the fields that are new or differ, and the names of those that go.
use Rattle.std.specs.Prelude.{◌≡◌, ℕ, Bool, true, not, List, filter, Option, Some, None, is_none}
use Rattle.std.specs.Map.{keys_of}
use Rattle.resh_value.specs.Order.{is_same}
use Rattle.resh_value.specs.Lookup.{field_of}
use Rattle.resh_value.specs.Change.{changed}
use Rattle.resh_value.specs.declared.value.Value.{Value}
use Rattle.resh_ops.specs.Paths.{Document}

abbrev pub is_other : Option Value → Value → Bool
is_other None value = true
is_other (Some old) value = not (is_same old value)

-- the fields of a document that are new or have another value than before
abbrev pub assigned : Document → Document → Document
assigned before after = filter (λ f. is_other (field_of before f.0) f.1) after

-- the names of the fields that are gone
abbrev pub unset : Document → Document → List (List ℕ)
unset before after = keys_of (filter (λ f. is_none (field_of after f.0)) before)

-- the change leads to the document, and names the fields that differ and no other
pub record LeadsTo (before after assign : Document) (gone : List (List ℕ)) : Type 0 where
  pub made : changed assign gone before ≡ after
  pub assigns : assign ≡ assigned before after
  pub unsets : gone ≡ unset before after
