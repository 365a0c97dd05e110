-- A change leaves what it doesn't name.
use Rattle.std.proofs.Common.{◌≡◌, ℕ, Bool, true, false, cond, not, ◌&&◌, ◌||◌, List, [], ◌∷◌, Option, Some, is_some, unwrap_or, codes, refl, ap, ◌∙◌}
use Rattle.std.specs.List.{list_all}
use Rattle.std.specs.Ordering.{is_eq}
use Rattle.resh_value.specs.Names.{name_cmp}
use Rattle.resh_value.specs.Lookup.{field_of, with_field, without_field, value_under, id_of}
use Rattle.resh_value.specs.Change.{with_fields, without_fields, changed, is_among, is_named}
use Rattle.resh_value.specs.declared.value.Value.TheVariants.{Null}
use Rattle.resh_value.proofs.FieldLaws.{field_of-with_field_other, field_of-without_field_other}
use Rattle.resh_chunks.specs.Chunks.{Chunks, owner, owner_of}
use Rattle.resh_chunks.specs.Pattern.{key_of}
use Rattle.resh_stash.specs.Stored.{Document}

neither : (a b : Bool) → (a || b) ≡ false → (a ≡ false) × (b ≡ false)
neither true b h = cc
neither false b h = (refl, h)

both : (a b : Bool) → (not a && b) ≡ true → (a ≡ false) × (b ≡ true)
both true b h = cc
both false b h = (refl, h)

module _ {X : Type 0} where
  neither_found : (here : Bool) (value : X) (rest : Option X) → is_some (cond here (Some value) rest) ≡ false → (here ≡ false) × (is_some rest ≡ false)
  neither_found true value rest h = cc
  neither_found false value rest h = (refl, h)

  unset_stays : (fields : List (List ℕ × X)) (names : List (List ℕ)) (name : List ℕ) → is_among names name ≡ false → field_of (without_fields fields names) name ≡ field_of fields name
  unset_stays fields [] name h = refl
  unset_stays fields (n ∷ ns) name h =
      let apart = neither (is_eq (name_cmp name n)) (is_among ns name) h in
      unset_stays (without_field fields n) ns name apart.1 ∙ field_of-without_field_other fields n name apart.0

  assigned_stays : (fields assign : List (List ℕ × X)) (name : List ℕ) → is_some (field_of assign name) ≡ false → field_of (with_fields fields assign) name ≡ field_of fields name
  assigned_stays fields [] name h = refl
  assigned_stays fields (f ∷ fs) name h =
      let apart = neither_found (is_eq (name_cmp name f.0)) f.1 (field_of fs name) h in
      assigned_stays (with_field fields f.0 f.1) fs name apart.1 ∙ field_of-with_field_other fields f.0 name f.1 apart.0

  -- a field that a change doesn't name has what it had
  pub unnamed_stays : (assign : List (List ℕ × X)) (unset : List (List ℕ)) (document : List (List ℕ × X)) (name : List ℕ) → is_named assign unset name ≡ false → field_of (changed assign unset document) name ≡ field_of document name
  unnamed_stays assign unset document name h =
      let apart = neither (is_some (field_of assign name)) (is_among unset name) h in
      assigned_stays (without_fields document unset) assign name apart.0 ∙ unset_stays document unset name apart.1

module _ (assign : Document) (unset : List (List ℕ)) (document : Document) where
  value_stays : (name : List ℕ) → is_named assign unset name ≡ false → value_under (changed assign unset document) name ≡ value_under document name
  value_stays name h = ap (λ value. unwrap_or value Null) (unnamed_stays assign unset document name h)

  pub id_stays : is_named assign unset (codes "_id") ≡ false → id_of (changed assign unset document) ≡ id_of document
  id_stays h = value_stays (codes "_id") h

  key_stays : (names : List (List ℕ)) → list_all (λ name. not (is_named assign unset name)) names ≡ true → key_of names (changed assign unset document) ≡ key_of names document
  key_stays [] h = refl
  key_stays (n ∷ ns) h =
      let apart = both (is_named assign unset n) (list_all (λ name. not (is_named assign unset name)) ns) h in
      let here = value_stays n apart.0 in
      let rest = key_stays ns apart.1 in
      λ i. here i ∷ rest i

-- a document that a change doesn't give another key has the owner that it had
pub owner_stays : (old : Chunks) (assign : Document) (unset : List (List ℕ)) (document : Document) → list_all (λ name. not (is_named assign unset name)) old.pattern ≡ true → owner_of old (changed assign unset document) ≡ owner_of old document
owner_stays old assign unset document h = ap (owner old) (key_stays assign unset document old.pattern h)
