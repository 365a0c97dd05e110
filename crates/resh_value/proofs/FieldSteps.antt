-- A look-up, a put and a removal at fields that begin with f.
use Rattle.std.proofs.Common.{◌≡◌, ℕ, List, ◌∷◌, Some, false, cond, ap}
use Rattle.std.specs.declared.cmp.Ordering.TheVariants.{Less, Equal, Greater}
use Rattle.std.specs.Ordering.{is_eq, match_ordering}
use Rattle.resh_value.specs.Names.{name_cmp}
use Rattle.resh_value.specs.Lookup.{field_of, with_field, without_field}

module _ {X : Type 0} (name : List ℕ) (f : List ℕ × X) (fs : List (List ℕ × X)) where
  pub field_of-here : name_cmp name f.0 ≡ Equal → field_of (f ∷ fs) name ≡ Some f.1
  field_of-here h = ap (λ o. cond (is_eq o) (Some f.1) (field_of fs name)) h

  pub field_of-past : is_eq (name_cmp name f.0) ≡ false → field_of (f ∷ fs) name ≡ field_of fs name
  field_of-past h = ap (λ b. cond b (Some f.1) (field_of fs name)) h

  pub without_field-here : name_cmp name f.0 ≡ Equal → without_field (f ∷ fs) name ≡ fs
  without_field-here h = ap (λ o. cond (is_eq o) fs (f ∷ without_field fs name)) h

  pub without_field-past : is_eq (name_cmp name f.0) ≡ false → without_field (f ∷ fs) name ≡ f ∷ without_field fs name
  without_field-past h = ap (λ b. cond b fs (f ∷ without_field fs name)) h

  module _ (v : X) where
    pub with_field-before : name_cmp name f.0 ≡ Less → with_field (f ∷ fs) name v ≡ (name, v) ∷ f ∷ fs
    with_field-before h = ap (λ o. match_ordering o ((name, v) ∷ f ∷ fs) ((f.0, v) ∷ fs) (f ∷ with_field fs name v)) h

    pub with_field-here : name_cmp name f.0 ≡ Equal → with_field (f ∷ fs) name v ≡ (f.0, v) ∷ fs
    with_field-here h = ap (λ o. match_ordering o ((name, v) ∷ f ∷ fs) ((f.0, v) ∷ fs) (f ∷ with_field fs name v)) h

    pub with_field-past : name_cmp name f.0 ≡ Greater → with_field (f ∷ fs) name v ≡ f ∷ with_field fs name v
    with_field-past h = ap (λ o. match_ordering o ((name, v) ∷ f ∷ fs) ((f.0, v) ∷ fs) (f ∷ with_field fs name v)) h
