-- What a filter matches, pair by pair.
use Rattle.std.proofs.Common.{◌≡◌, ◌∙◌, ℕ, Bool, true, false, cond, List, [], ◌∷◌, Some, None, refl, sym, ap, subst}
use Rattle.std.specs.Prelude.{◌↔◌, ◌&&◌, unwrap_or}
use Rattle.std.specs.Cmp.{Equal-is}
use Rattle.std.specs.Ordering.{is_eq}
use Rattle.std.specs.declared.cmp.Ordering.TheVariants.{Equal}
use Rattle.std.specs.Map.{keys_of}
use Rattle.std.proofs.lemmas.Bool.{and_parts}
use Rattle.std.proofs.lemmas.List.Sums.{list_all-from_AllPass}
use Rattle.std.proofs.lemmas.Map.Keys.{sorted_head, sorted_tail}
use Rattle.resh_value.specs.Lookup.{field_of, value_under, without_field}
use Rattle.resh_value.specs.Names.{name_cmp, HasRisingNames}
use Rattle.resh_value.specs.Order.{compare_of}
use Rattle.resh_value.specs.OrderLaws.{compare_itself, compare_same}
use Rattle.resh_value.specs.declared.value.Value.{Value}
use Rattle.resh_value.specs.declared.value.Value.TheVariants.{Null}
use Rattle.resh_value.proofs.FieldLaws.{field_of-below}
use Rattle.resh_value.proofs.FieldSteps.{field_of-here, field_of-past}
use Rattle.resh_value.proofs.Names.{by_order, name_cmp-itself, same_from_equal}
use Rattle.resh_filter.specs.Filters.{agrees, matches, HasValues}
use Rattle.resh_filter.specs.Laws.{MatchesByName, MatchesOwnFields, MatchesItself, NullIsMissing, EmptyMatchesAll}

abbrev Fields : Type 0
Fields = List (List ℕ × Value)

-- a pair agrees exactly where its value is the document's
same_agrees : (document : Fields) (name : List ℕ) (value : Value) → value_under document name ≡ value → agrees document (name, value) ≡ true
same_agrees document name value is = ap (λ v. is_eq (compare_of value v)) is ∙ ap is_eq (compare_itself value)

agreeing_same : (document : Fields) (name : List ℕ) (value : Value) → agrees document (name, value) ≡ true → value_under document name ≡ value
agreeing_same document name value e = sym (compare_same value (value_under document name) ((Equal-is (compare_of value (value_under document name))).0 e))

same_value : (x y : Value) → Some x ≡ Some y → x ≡ y
same_value x y e = cc

-- a filter that matches agrees under each name that it gives
pub matching_agrees : (fs document : Fields) → matches fs document ≡ true → HasValues document fs
matching_agrees [] document m name value is = cc
matching_agrees (f ∷ fs) document m name value is =
    let both = and_parts (agrees document f) (matches fs document) m in
    let past : is_eq (name_cmp name f.0) ≡ false → value_under document name ≡ value = λ h. matching_agrees fs document both.1 name value (sym (field_of-past name f fs h) ∙ is) in
    by_order (name_cmp name f.0) (λ h. past (ap is_eq h))
    (λ h. ap (value_under document) (same_from_equal name f.0 h) ∙ agreeing_same document f.0 f.1 both.0 ∙ same_value f.1 value (sym (field_of-here name f fs h) ∙ is))
    (λ h. past (ap is_eq h))

-- what stands among the later fields stands among all, since names rise
later_stands : (f : List ℕ × Value) (fs : Fields) → HasRisingNames (f ∷ fs) → (name : List ℕ) (value : Value) → field_of fs name ≡ Some value → field_of (f ∷ fs) name ≡ Some value
later_stands f fs s name value is =
    let past : is_eq (name_cmp name f.0) ≡ false → field_of (f ∷ fs) name ≡ Some value = λ h. field_of-past name f fs h ∙ is in
    by_order (name_cmp name f.0) (λ h. past (ap is_eq h))
    (λ h.
    let none : field_of fs name ≡ None = subst (λ (n : List ℕ). field_of fs n ≡ None) (sym (same_from_equal name f.0 h)) (field_of-below f.0 fs (sorted_head name_cmp f.0 (keys_of fs) s)) in
    let both : None ≡ Some value = sym none ∙ is in
    cc)
    (λ h. past (ap is_eq h))

agreeing_matches : (fs document : Fields) → HasRisingNames fs → HasValues document fs → matches fs document ≡ true
agreeing_matches [] document s h = refl
agreeing_matches (f ∷ fs) document s h =
    let here = same_agrees document f.0 f.1 (h f.0 f.1 (field_of-here f.0 f fs (name_cmp-itself f.0))) in
    let rest = agreeing_matches fs document (sorted_tail name_cmp f.0 (keys_of fs) s) (λ n v e. h n v (later_stands f fs s n v e)) in
    ap (λ b. b && matches fs document) here ∙ rest

pub matches_by_name : MatchesByName
matches_by_name filter document s = (matching_agrees filter document, agreeing_matches filter document s)

-- the answer of a match is true exactly where the document has the filter's values
pub answer_by_name : (filter document : Fields) (answer : Bool) → HasRisingNames filter → answer ≡ matches filter document → (answer ≡ true) ↔ HasValues document filter
answer_by_name filter document answer s is = (λ e. matching_agrees filter document (sym is ∙ e), λ h. is ∙ agreeing_matches filter document s h)

standing : (document : Fields) (name : List ℕ) (value : Value) → field_of document name ≡ Some value → value_under document name ≡ value
standing document name value is = ap (λ o. unwrap_or o Null) is

pub matches_own_fields : MatchesOwnFields
matches_own_fields fields document h = list_all-from_AllPass (agrees document) fields (λ k d l. same_agrees document _ _ (standing document _ _ (h k d l)))

pub matches_itself : MatchesItself
matches_itself document s = agreeing_matches document document s (standing document)

pub null_is_missing : NullIsMissing
null_is_missing [] document name null lacks = cc
null_is_missing (f ∷ fs) document name null lacks =
    let R : Fields → Type 0 = λ rest. matches (f ∷ fs) document ≡ matches rest document in
    let past : is_eq (name_cmp name f.0) ≡ false → matches (f ∷ fs) document ≡ matches (without_field (f ∷ fs) name) document = λ h.
    subst R (sym (ap (λ b. cond b fs (f ∷ without_field fs name)) h)) (ap (λ b. agrees document f && b) (null_is_missing fs document name (sym (field_of-past name f fs h) ∙ null) lacks)) in
    by_order (name_cmp name f.0) (λ h. past (ap is_eq h))
    (λ h.
    let value : f.1 ≡ Null = same_value f.1 Null (sym (field_of-here name f fs h) ∙ null) in
    let nothing : value_under document f.0 ≡ Null = ap (value_under document) (sym (same_from_equal name f.0 h)) ∙ ap (λ o. unwrap_or o Null) lacks in
    let here : agrees document f ≡ true = same_agrees document f.0 f.1 (nothing ∙ sym value) in
    subst R (sym (ap (λ o. cond (is_eq o) fs (f ∷ without_field fs name)) h)) (ap (λ b. b && matches fs document) here))
    (λ h. past (ap is_eq h))

pub empty_matches_all : EmptyMatchesAll
empty_matches_all document = refl
