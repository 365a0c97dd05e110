-- The change from a document to another leads to it.
use Rattle.std.proofs.Common.{◌≡◌, ℕ, Bool, true, false, cond, not, ◌||◌, ◌&&◌, List, [], ◌∷◌, ◌≤◌, length, drop, filter, Option, Some, None, is_none, is_some, refl, ap, sym, ◌∙◌, subst}
use Rattle.std.proofs.Math.ListN.{drop_of_length-le}
use Rattle.std.specs.declared.cmp.Ordering.TheVariants.{Less, Equal}
use Rattle.std.specs.Ordering.{is_eq}
use Rattle.std.specs.List.{AllByRecursion, list_all}
use Rattle.std.specs.List.Sorted.{IsStrictlySortedBy}
use Rattle.std.specs.Map.{keys_of}
use Rattle.std.proofs.lemmas.Map.Keys.{sorted_head, sorted_tail}
use Rattle.resh_value.specs.Order.{is_same}
use Rattle.resh_value.specs.Names.{name_cmp, HasRisingNames}
use Rattle.resh_value.specs.Lookup.{field_of}
use Rattle.resh_value.specs.OrderLaws.{same_value}
use Rattle.resh_value.specs.Change.{changed, changed_value, with_fields, are_apart, is_among, is_named}
use Rattle.resh_value.specs.declared.value.Value.{Value}
use Rattle.resh_value.proofs.Names.{same_from_equal, by_order}
use Rattle.resh_value.proofs.FieldLaws.{field_of-below, same_fields}
use Rattle.resh_value.proofs.ChangeLaws.{field_of-with_fields, HasRisingNames-with_fields, field_of-changed, HasRisingNames-changed}
use Rattle.resh_ops.specs.Paths.{Document}
use Rattle.resh_ops.specs.Laws.{EmptyChangeKeeps}
use Rattle.resh_ops.specs.Changes.{assigned, is_other, unset, LeadsTo}

abbrev Field : Type 0
Field = List ℕ × Value

-- a test of a field's name and value keeps the names rising
all_filter : (P : List ℕ → Type 0) (test : Field → Bool) (fs : Document) → AllByRecursion P (keys_of fs) → AllByRecursion P (keys_of (filter test fs))
all_filter P test [] a = tt
all_filter P test (f ∷ fs) a = elim (test f) as (λ b. AllByRecursion P (keys_of (cond b (f ∷ filter test fs) (filter test fs)))) [ true ↦ (a.0, all_filter P test fs a.1) | false ↦ all_filter P test fs a.1 ]

HasRisingNames-filter : (test : Field → Bool) (fs : Document) → HasRisingNames fs → HasRisingNames (filter test fs)
unfolding IsStrictlySortedBy
HasRisingNames-filter test [] s = tt
HasRisingNames-filter test (f ∷ fs) s =
    elim (test f) as (λ b. IsStrictlySortedBy name_cmp (keys_of (cond b (f ∷ filter test fs) (filter test fs))))
    [ true ↦ (all_filter (λ y. name_cmp f.0 y ≡ Less) test fs s.0, HasRisingNames-filter test fs s.1) | false ↦ HasRisingNames-filter test fs s.1 ]

-- what a test leaves of a look-up
abbrev kept : (Field → Bool) → List ℕ → Option Value → Option Value
kept test name None = None
kept test name (Some v) = cond (test (name, v)) (Some v) None

filter-past : (test : Field → Bool) (f : Field) (fs : Document) (name : List ℕ) (b : Bool) → is_eq (name_cmp name f.0) ≡ false
    → field_of (cond b (f ∷ filter test fs) (filter test fs)) name ≡ field_of (filter test fs) name
filter-past test f fs name true h = ap (λ c. cond c (Some f.1) (field_of (filter test fs) name)) h
filter-past test f fs name false h = refl

filter-here : (test : Field → Bool) (f : Field) (fs : Document) (name : List ℕ) (b : Bool) → name_cmp name f.0 ≡ Equal → field_of (filter test fs) name ≡ None
    → field_of (cond b (f ∷ filter test fs) (filter test fs)) name ≡ cond b (Some f.1) None
filter-here test f fs name true h n = ap (λ o. cond (is_eq o) (Some f.1) (field_of (filter test fs) name)) h
filter-here test f fs name false h n = n

field_of-filter : (test : Field → Bool) (fs : Document) (name : List ℕ) → HasRisingNames fs → field_of (filter test fs) name ≡ kept test name (field_of fs name)
field_of-filter test [] name s = refl
field_of-filter test (f ∷ fs) name s =
    let rest : field_of (filter test fs) name ≡ kept test name (field_of fs name) = field_of-filter test fs name (sorted_tail name_cmp f.0 (keys_of fs) s) in
    let past : is_eq (name_cmp name f.0) ≡ false → field_of (filter test (f ∷ fs)) name ≡ kept test name (field_of (f ∷ fs) name) =
    λ h. filter-past test f fs name (test f) h ∙ rest ∙ ap (λ c. kept test name (cond c (Some f.1) (field_of fs name))) (sym h) in
    by_order (name_cmp name f.0) (λ h. past (ap is_eq h))
    (λ h.
    let same : name ≡ f.0 = same_from_equal name f.0 h in
    let none : field_of fs name ≡ None = subst (λ (k : List ℕ). field_of fs k ≡ None) (sym same) (field_of-below f.0 fs (sorted_head name_cmp f.0 (keys_of fs) s)) in
    filter-here test f fs name (test f) h (rest ∙ ap (kept test name) none) ∙ ap (λ (k : List ℕ). cond (test (k, f.1)) (Some f.1) None) (sym same)
    ∙ ap (λ o. kept test name (cond (is_eq o) (Some f.1) (field_of fs name))) (sym h))
    (λ h. past (ap is_eq h))

-- a name is among a document's where something stands under it
either_found : (b : Bool) (v : Value) (o : Option Value) → (b || not (is_none o)) ≡ not (is_none (cond b (Some v) o))
either_found true v o = refl
either_found false v o = refl

is_among-names : (fs : Document) (q : List ℕ) → is_among (keys_of fs) q ≡ not (is_none (field_of fs q))
is_among-names [] q = refl
is_among-names (f ∷ fs) q = ap (λ b. is_eq (name_cmp q f.0) || b) (is_among-names fs q) ∙ either_found (is_eq (name_cmp q f.0)) f.1 (field_of fs q)

-- the two tests, at one name that has these values before and after
abbrev newer : Document → Field → Bool
newer before f = is_other (field_of before f.0) f.1

abbrev gone : Document → Field → Bool
gone after f = is_none (field_of after f.0)

by_same : (old v : Value) (b : Bool) → is_same old v ≡ b → changed_value (cond (not b) (Some v) None) false (Some old) ≡ Some v
by_same old v true h = ap (λ (x : Value). Some x) ((same_value old v).0 h)
by_same old v false h = refl

by_value : (before after : Option Value) (new lost : Option Value → Option Value)
    → new None ≡ None → ((v : Value) → new (Some v) ≡ cond (is_other before v) (Some v) None) → lost None ≡ None → ((v : Value) → lost (Some v) ≡ cond (is_none after) (Some v) None)
    → changed_value (new after) (not (is_none (lost before))) before ≡ after
by_value None None new lost a b c d = λ i. changed_value (a i) (not (is_none (c i))) None
by_value (Some old) None new lost a b c d = λ i. changed_value (a i) (not (is_none (d old i))) (Some old)
by_value None (Some v) new lost a b c d = λ i. changed_value (b v i) (not (is_none (c i))) None
by_value (Some old) (Some v) new lost a b c d = (λ i. changed_value (b v i) (not (is_none (d old i))) (Some old)) ∙ by_same old v (is_same old v) refl

module _ (before after : Document) (s : HasRisingNames before) (t : HasRisingNames after) where
  pub HasRisingNames-assigned : HasRisingNames (assigned before after)
  HasRisingNames-assigned = HasRisingNames-filter (newer before) after t

  found_after : (q : List ℕ) → field_of (changed (assigned before after) (unset before after) before) q ≡ field_of after q
  found_after q =
      field_of-changed (assigned before after) (unset before after) before q HasRisingNames-assigned s
      ∙ ap (λ o. changed_value o (is_among (unset before after) q) (field_of before q)) (field_of-filter (newer before) after q t)
      ∙ ap (λ b. changed_value (kept (newer before) q (field_of after q)) b (field_of before q)) (is_among-names (filter (gone after) before) q ∙ ap (λ o. not (is_none o)) (field_of-filter (gone after) before q s))
      ∙ by_value (field_of before q) (field_of after q) (kept (newer before) q) (kept (gone after) q) refl (λ v. refl) refl (λ v. refl)

  pub leads_on : LeadsTo before after (assigned before after) (unset before after)
  leads_on = record {
    made = same_fields (changed (assigned before after) (unset before after) before) after (HasRisingNames-changed (assigned before after) (unset before after) before s) t found_after;
    assigns = refl;
    unsets = refl;
  }

-- a field that stays is new to neither test
stays_unnamed : (o : Option Value) (new lost : Option Value → Option Value)
    → new None ≡ None → ((v : Value) → new (Some v) ≡ cond (is_other o v) (Some v) None) → lost None ≡ None → ((v : Value) → lost (Some v) ≡ cond (is_none o) (Some v) None)
    → (is_some (new o) || not (is_none (lost o))) ≡ false
stays_unnamed None new lost a b c d = λ i. is_some (a i) || not (is_none (c i))
stays_unnamed (Some v) new lost a b c d = (λ i. is_some (b v i) || not (is_none (d v i))) ∙ ap (λ same. is_some (cond (not same) (Some v) None) || false) ((same_value v v).1 refl)

-- the change names no field that stays
module _ (before after : Document) (s : HasRisingNames before) (t : HasRisingNames after) (name : List ℕ) (same : field_of after name ≡ field_of before name) where
  unnamed_on : is_named (assigned before after) (unset before after) name ≡ false
  unnamed_on =
      ap (λ o. is_some o || is_among (unset before after) name) (field_of-filter (newer before) after name t)
      ∙ ap (λ b. is_some (kept (newer before) name (field_of after name)) || b) (is_among-names (filter (gone after) before) name ∙ ap (λ o. not (is_none o)) (field_of-filter (gone after) before name s))
      ∙ ap (λ o. is_some (kept (newer before) name o) || not (is_none (kept (gone after) name (field_of before name)))) same
      ∙ stays_unnamed (field_of before name) (kept (newer before) name) (kept (gone after) name) refl (λ v. refl) refl (λ v. ap (λ o. cond (is_none o) (Some v) None) same)

-- the tests leave no name in both
names_step : (test : Field → Bool) (Q : List ℕ → Bool) (f : Field) (fs : Document) (b : Bool) → (b ≡ true → Q f.0 ≡ true) → list_all Q (keys_of (filter test fs)) ≡ true
    → list_all Q (keys_of (cond b (f ∷ filter test fs) (filter test fs))) ≡ true
names_step test Q f fs true h rest = ap (λ b. b && list_all Q (keys_of (filter test fs))) (h refl) ∙ rest
names_step test Q f fs false h rest = rest

all_names : (test : Field → Bool) (Q : List ℕ → Bool) (fs : Document) → ((f : Field) → test f ≡ true → Q f.0 ≡ true) → list_all Q (keys_of (filter test fs)) ≡ true
all_names test Q [] h = refl
all_names test Q (f ∷ fs) h = names_step test Q f fs (test f) (h f) (all_names test Q fs h)

is_none-none : (o : Option Value) → is_none o ≡ true → o ≡ None
is_none-none None h = refl
is_none-none (Some v) h = cc

apart_on : (before after : Document) → HasRisingNames after → are_apart (assigned before after) (unset before after) ≡ true
apart_on before after t =
    all_names (gone after) (λ name. is_none (field_of (assigned before after) name)) before
    (λ f h. ap is_none (field_of-filter (newer before) after f.0 t ∙ ap (kept (newer before) f.0) (is_none-none (field_of after f.0) h)))

module _ (before after assign : Document) (names : List (List ℕ)) (a : assign ≡ assigned before after) (u : names ≡ unset before after) where
  pub leads : HasRisingNames before → HasRisingNames after → LeadsTo before after assign names
  leads s t = rw (a, u) (leads_on before after s t)

  pub unnamed : HasRisingNames before → HasRisingNames after → (name : List ℕ) → field_of after name ≡ field_of before name → is_named assign names name ≡ false
  unnamed s t name same = rw (a, u) (unnamed_on before after s t name same)

  pub rising : HasRisingNames after → HasRisingNames assign
  rising t = rw (a) (HasRisingNames-filter (newer before) after t)

  pub apart : HasRisingNames after → are_apart assign names ≡ true
  apart t = rw (a, u) (apart_on before after t)

-- the fields that a walk over rising names puts, one after another
pub puts_all : (fs : Document) → HasRisingNames fs → with_fields [] fs ≡ fs
unfolding IsStrictlySortedBy
puts_all fs s = same_fields (with_fields [] fs) fs (HasRisingNames-with_fields [] fs empty_rises) s (λ q. field_of-with_fields [] fs q s ∙ itself (field_of fs q))
  where
    empty_rises : HasRisingNames {X = Value} []
    empty_rises = tt

    itself : (o : Option Value) → changed_value o false None ≡ o
    itself None = refl
    itself (Some v) = refl

module _ (before after fields assign : Document) (i : ℕ) (s : HasRisingNames after) (f : fields ≡ after) (l : length fields ≤ i) where
  pub puts_assigned : with_fields assign (assigned before (drop i fields)) ≡ with_fields [] (assigned before fields) → assign ≡ assigned before after
  puts_assigned e =
      ap (λ r. with_fields assign (assigned before r)) (sym (drop_of_length-le fields l)) ∙ e ∙ ap (λ r. with_fields [] (assigned before r)) f
      ∙ puts_all (assigned before after) (HasRisingNames-filter (newer before) after s)

pub empty_keeps : EmptyChangeKeeps
empty_keeps before after s t a u = sym (leads_on before after s t).made ∙ ap (λ l. changed l (unset before after) before) a ∙ ap (λ names. changed [] names before) u
