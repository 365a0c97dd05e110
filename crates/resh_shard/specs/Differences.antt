-- The change that leads from a document to another.
use Rattle.std.proofs.Common.{◌≡◌, ℕ, Bool, true, false, ◌&&◌, cond, List, [], ◌∷◌, filter, Some, is_none, refl, ap, ◌∙◌}
use Rattle.std.specs.BTreeMap.{is_at}
use Rattle.std.specs.Map.{keys_of}
use Rattle.resh_value.specs.Change.{are_apart}
use Rattle.resh_value.specs.Lookup.{field_of}
use Rattle.resh_value.specs.Names.{name_cmp}
use Rattle.resh_value.specs.declared.change.Change.{Change}
use Rattle.resh_value.specs.declared.value.Value.{Value}
use Rattle.resh_ops.specs.Changes.{assigned, unset}
use Rattle.resh_versions.specs.Chains.{Document}

-- where fields have nothing under a name, those of them that pass a test have nothing there
pub still_none : (passes : List ℕ × Value → Bool) (fields : Document) (name : List ℕ)
    → is_none (field_of fields name) ≡ true → is_none (field_of (filter passes fields) name) ≡ true
still_none passes [] name none = refl
still_none passes (f ∷ fs) name none =
    by (is_at (name_cmp name) f.0) (passes f) refl none (λ h. still_none passes fs name h)
  where
    by : (here passed : Bool) → is_at (name_cmp name) f.0 ≡ here
        → is_none (cond here (Some f.1) (field_of fs name)) ≡ true
        → (is_none (field_of fs name) ≡ true → is_none (field_of (filter passes fs) name) ≡ true)
        → is_none (field_of (cond passed (f ∷ filter passes fs) (filter passes fs)) name) ≡ true
    by true passed is h rest = cc
    by false true is h rest =
        ap (λ here. is_none (cond here (Some f.1) (field_of (filter passes fs) name))) is ∙ rest h
    by false false is h rest = rest h

-- no name is both assigned and unset
pub apart : (assign before after : Document)
    → ((name : List ℕ) → is_none (field_of after name) ≡ true → is_none (field_of assign name) ≡ true)
    → are_apart assign (unset before after) ≡ true
apart assign [] after h = refl
apart assign (f ∷ fs) after h = by (is_none (field_of after f.0)) refl (apart assign fs after h)
  where
    by : (gone : Bool) → is_none (field_of after f.0) ≡ gone → are_apart assign (unset fs after) ≡ true
        → are_apart assign (keys_of (cond gone (f ∷ filter (λ g. is_none (field_of after g.0)) fs)
        (filter (λ g. is_none (field_of after g.0)) fs))) ≡ true
    by true is rest = ap (λ b. b && are_apart assign (unset fs after)) (h f.0 is) ∙ rest
    by false is rest = rest

-- it assigns the fields that are new or differ, and unsets those that are gone
abbrev pub change_between : Document → Document → Change
change_between before after = record {
  assign = assigned before after;
  unset = unset before after;
  apart = apart (assigned before after) before after (λ name none. still_none _ after name none);
}
