-- Whole documents: their tests, and what leaves them whole.
use Rattle.std.proofs.Common.{◌≡◌, ◌≢◌, ◌↔◌, ℕ, Bool, true, false, ◌&&◌, ◌||◌, cond, List, Option, Some, None, is_some, codes, refl, ap, sym, ◌∙◌}
use Rattle.std.specs.Ordering.{is_eq}
use Rattle.resh_value.specs.Change.{changed, changed_value, is_among, is_named}
use Rattle.resh_value.specs.Lookup.{field_of, with_field, without_field, has_id}
use Rattle.resh_value.specs.Names.{name_cmp, HasRisingNames}
use Rattle.resh_value.specs.Whole.{IsWhole, is_whole, has_rising_names}
use Rattle.resh_value.specs.declared.value.Value.{Value}
use Rattle.resh_value.proofs.ChangeLaws.{field_of-changed, HasRisingNames-changed}
use Rattle.resh_value.proofs.FieldLaws.{field_of-with_field, field_of-with_field_same, field_of-without_field_other, HasRisingNames-with_field, HasRisingNames-without_field}
use Rattle.resh_value.proofs.MapEntries.{order_decides}
use Rattle.resh_value.proofs.Names.{apart_from_unlike}

abbrev Document : Type 0
Document = List (List ℕ × Value)

both_true : (a b : Bool) → (a && b) ≡ true → (a ≡ true) × (b ≡ true)
both_true true b e = (refl, e)
both_true false b e = cc

pub rising_decides : {X : Type 0} (fields : List (List ℕ × X)) → (has_rising_names fields ≡ true) ↔ HasRisingNames fields
rising_decides fields = order_decides name_cmp fields

pub whole_decides : (document : Document) → (is_whole document ≡ true) ↔ IsWhole document
whole_decides document = (
  λ e. let t = both_true _ _ e in record { rising = (rising_decides document).0 t.0; id = t.1 },
  λ w. let a = (rising_decides document).1 w.rising in let b = w.id in rw (a, b) refl,
)

-- a field that no change names stays
pub field_of-unnamed : {X : Type 0} (fields assign : List (List ℕ × X)) (unset : List (List ℕ)) (name : List ℕ) → HasRisingNames assign → HasRisingNames fields
    → is_named assign unset name ≡ false → field_of (changed assign unset fields) name ≡ field_of fields name
field_of-unnamed {X} fields assign unset name a s unnamed =
    field_of-changed assign unset fields name a s ∙ left (field_of assign name) (is_among unset name) (field_of fields name) unnamed
  where
    left : (o : Option X) (gone : Bool) (old : Option X) → (is_some o || gone) ≡ false → changed_value o gone old ≡ old
    left (Some v) gone old e = cc
    left None true old e = cc
    left None false old e = refl

pub whole_put : (document : Document) (name : List ℕ) (value : Value) → IsWhole document → IsWhole (with_field document name value)
whole_put document name value w = record {
  rising = HasRisingNames-with_field document name value w.rising;
  id = ap is_some (field_of-with_field document name (codes "_id") value) ∙ either (is_eq (name_cmp (codes "_id") name)) (field_of document (codes "_id")) w.id;
}
  where
    either : (b : Bool) (o : Option Value) → is_some o ≡ true → is_some (cond b (Some value) o) ≡ true
    either true o e = refl
    either false o e = e

pub whole_removed : (document : Document) (name : List ℕ) → name ≢ codes "_id" → IsWhole document → IsWhole (without_field document name)
whole_removed document name other w = record {
  rising = HasRisingNames-without_field document name w.rising;
  id = ap is_some (field_of-without_field_other document name (codes "_id") (apart_from_unlike (codes "_id") name (λ e. other (sym e)))) ∙ w.id;
}

pub whole_changed : (document assign : Document) (unset : List (List ℕ)) → HasRisingNames assign → is_named assign unset (codes "_id") ≡ false
    → IsWhole document → IsWhole (changed assign unset document)
whole_changed document assign unset a unnamed w = record {
  rising = HasRisingNames-changed assign unset document w.rising;
  id = ap is_some (field_of-unnamed document assign unset (codes "_id") a w.rising unnamed) ∙ w.id;
}

pub whole_with_id : (document : Document) (id : Value) → HasRisingNames document → IsWhole (with_field document (codes "_id") id)
whole_with_id document id rising = record {
  rising = HasRisingNames-with_field document (codes "_id") id rising;
  id = ap is_some (field_of-with_field_same document (codes "_id") id);
}

-- where the names rise, whether a document is whole is whether it has an `_id`
pub whole_by_id : (document : Document) → HasRisingNames document → is_whole document ≡ has_id document
whole_by_id document rising = ap (λ b. b && has_id document) ((rising_decides document).1 rising)
