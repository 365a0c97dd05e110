-- What a search among rising names finds.
use Rattle.std.proofs.Common.{◌≡◌, ℕ, zero, suc, ◌+◌, ◌<◌, ◌≤◌, List, [], ◌∷◌, Some, None, length, get_or, slice_get, slice_set, insert, remove, refl, ap, sym, ◌∙◌, arith, subst}
use Rattle.std.specs.declared.cmp.Ordering.TheVariants.{Less, Equal, Greater}
use Rattle.std.specs.Ordering.{is_eq}
use Rattle.std.specs.List.{AllByRecursion}
use Rattle.std.specs.Map.{keys_of}
use Rattle.std.proofs.lemmas.Map.Keys.{sorted_head, sorted_tail}
use Rattle.std.proofs.lemmas.Option.{slice_get-get_or, same_Some}
use Rattle.resh_value.specs.Names.{name_cmp, HasRisingNames}
use Rattle.resh_value.specs.Lookup.{field_of, with_field, without_field, StandsAt, GoesTo}
use Rattle.resh_value.proofs.Names.{name_cmp_total, name_cmp-itself, greater_from_less, less_from_greater, same_from_equal}
use Rattle.resh_value.proofs.FieldLaws.{above_all, field_of-below, HasRisingNames-with_field, HasRisingNames-without_field}
use Rattle.resh_value.proofs.FieldSteps.{field_of-here, field_of-past, with_field-before, with_field-here, with_field-past, without_field-here, without_field-past}

-- what a search's answer says of the lists, but for their order
record Found {X : Type 0} (fields : List (List ℕ × X)) (name : List ℕ) (place : ℕ) : Type 0 where
  within : place < length fields
  found : (value : X) → slice_get fields place ≡ Some (name, value) → field_of fields name ≡ Some value
  named : (other : List ℕ) (value : X) → slice_get fields place ≡ Some (other, value) → other ≡ name
  replaced : (value : X) → slice_set fields place (name, value) ≡ with_field fields name value
  removed : remove fields place ≡ without_field fields name

record Missed {X : Type 0} (fields : List (List ℕ × X)) (name : List ℕ) (place : ℕ) : Type 0 where
  within : place ≤ length fields
  missing : field_of fields name ≡ None
  inserted : (value : X) → insert fields place (name, value) ≡ with_field fields name value
  kept : fields ≡ without_field fields name

-- a name is above the fields before one place, and below those from another on
pub record IsBetween {X : Type 0} (fields : List (List ℕ × X)) (name : List ℕ) (low high : ℕ) : Type 0 where
  pub ordered : low ≤ high
  pub within : high ≤ length fields
  pub above : (j : ℕ) (f : List ℕ × X) → j + 1 ≡ low → slice_get fields j ≡ Some f → name_cmp name f.0 ≡ Greater
  pub below : (f : List ℕ × X) → slice_get fields high ≡ Some f → name_cmp name f.0 ≡ Less

module _ {X : Type 0} where
  -- a field at a place of the later ones is above the first
  pub above_head : (k : List ℕ) (fs : List (List ℕ × X)) (i : ℕ) (f : List ℕ × X) → AllByRecursion (λ y. name_cmp k y ≡ Less) (keys_of fs) → slice_get fs i ≡ Some f → name_cmp k f.0 ≡ Less
  above_head k [] i f a h = cc
  above_head k (g ∷ fs) zero f a h = let e : g ≡ f = cc in subst (λ (x : List ℕ × X). name_cmp k x.0 ≡ Less) e a.0
  above_head k (g ∷ fs) (suc i) f a h = above_head k fs i f a.1 h

  found_at : (name : List ℕ) (v : X) (fs : List (List ℕ × X)) (i : ℕ) → HasRisingNames fs → slice_get fs i ≡ Some (name, v) → Found fs name i
  found_at name v [] i s h = cc
  found_at name v (f ∷ fs) zero s h =
      let e : f ≡ (name, v) = cc in
      let at : name_cmp name f.0 ≡ Equal = ap (λ (x : List ℕ × X). name_cmp name x.0) e ∙ name_cmp-itself name in
      record {
        within = omega arith;
        found = λ w p. let q : f ≡ (name, w) = cc in field_of-here name f fs at ∙ ap (λ (x : List ℕ × X). Some x.1) q;
        named = λ o w p. let q : f ≡ (o, w) = cc in sym (ap (λ (x : List ℕ × X). x.0) q) ∙ ap (λ (x : List ℕ × X). x.0) e;
        replaced = λ w. ap (λ (k : List ℕ). (k, w) ∷ fs) (sym (ap (λ (x : List ℕ × X). x.0) e)) ∙ sym (with_field-here name f fs w at);
        removed = sym (without_field-here name f fs at);
      }
  found_at name v (f ∷ fs) (suc i) s h =
      let r = found_at name v fs i (sorted_tail name_cmp f.0 (keys_of fs) s) h in
      let above : name_cmp name f.0 ≡ Greater = greater_from_less f.0 name (above_head f.0 fs i (name, v) (sorted_head name_cmp f.0 (keys_of fs) s) h) in
      record {
        within = omega (arith, r.within);
        found = λ w p. field_of-past name f fs (ap is_eq above) ∙ r.found w p;
        named = r.named;
        replaced = λ w. ap (λ (l : List (List ℕ × X)). f ∷ l) (r.replaced w) ∙ sym (with_field-past name f fs w above);
        removed = ap (λ (l : List (List ℕ × X)). f ∷ l) r.removed ∙ sym (without_field-past name f fs (ap is_eq above));
      }

  stands : (name : List ℕ) (v : X) (fs : List (List ℕ × X)) (i : ℕ) → HasRisingNames fs → slice_get fs i ≡ Some (name, v) → StandsAt fs name i
  stands name v fs i s h =
      let r = found_at name v fs i s h in
      record {
        within = r.within;
        found = r.found;
        named = r.named;
        replaced = r.replaced;
        removed = r.removed;
        rises = λ w. subst (HasRisingNames {X = X}) (sym (r.replaced w)) (HasRisingNames-with_field fs name w s);
        rest_rises = subst (HasRisingNames {X = X}) (sym r.removed) (HasRisingNames-without_field fs name s);
      }

  kept_below : (name : List ℕ) (fs : List (List ℕ × X)) → AllByRecursion (λ y. name_cmp name y ≡ Less) (keys_of fs) → without_field fs name ≡ fs
  kept_below name [] a = refl
  kept_below name (f ∷ fs) a = without_field-past name f fs (ap is_eq a.0) ∙ ap (λ (l : List (List ℕ × X)). f ∷ l) (kept_below name fs a.1)

  -- a name that is above a later field of rising names is above the first
  over_head : (name : List ℕ) (f : List ℕ × X) (fs : List (List ℕ × X)) (i : ℕ) → HasRisingNames (f ∷ fs) → i ≤ length fs
      → ((j : ℕ) (g : List ℕ × X) → j + 1 ≡ suc i → slice_get (f ∷ fs) j ≡ Some g → name_cmp name g.0 ≡ Greater) → name_cmp name f.0 ≡ Greater
  over_head name f fs zero s l b = b 0 f (omega arith) refl
  over_head name f fs (suc i) s l b =
      let at : slice_get fs i ≡ Some (get_or fs i f) = slice_get-get_or fs i f (omega arith) in
      let below : name_cmp f.0 (get_or fs i f).0 ≡ Less = above_head f.0 fs i (get_or fs i f) (sorted_head name_cmp f.0 (keys_of fs) s) at in
      let under : name_cmp (get_or fs i f).0 name ≡ Less = less_from_greater name (get_or fs i f).0 (b (suc i) (get_or fs i f) (omega arith) at) in
      greater_from_less f.0 name (name_cmp_total.trans f.0 (get_or fs i f).0 name below under)

  -- a name that is below the field at a place and above the one before it
  missed_at : (name : List ℕ) (fs : List (List ℕ × X)) (i : ℕ) → HasRisingNames fs → i ≤ length fs
      → ((j : ℕ) (f : List ℕ × X) → j + 1 ≡ i → slice_get fs j ≡ Some f → name_cmp name f.0 ≡ Greater)
      → ((f : List ℕ × X) → slice_get fs i ≡ Some f → name_cmp name f.0 ≡ Less)
      → Missed fs name i
  missed_at name [] zero s l b a = record { within = omega arith; missing = refl; inserted = λ w. refl; kept = refl }
  missed_at name [] (suc i) s l b a = absurd (omega arith)
  missed_at name (f ∷ fs) zero s l b a =
      let under : name_cmp name f.0 ≡ Less = a f refl in
      let all = above_all name f.0 fs under (sorted_head name_cmp f.0 (keys_of fs) s) in
      record {
        within = omega arith;
        missing = field_of-below name (f ∷ fs) (under, all);
        inserted = λ w. sym (with_field-before name f fs w under);
        kept = sym (kept_below name (f ∷ fs) (under, all));
      }
  missed_at name (f ∷ fs) (suc i) s l b a =
      let over : name_cmp name f.0 ≡ Greater = over_head name f fs i s (omega arith) b in
      let r = missed_at name fs i (sorted_tail name_cmp f.0 (keys_of fs) s) (omega arith) (λ j g e p. b (suc j) g (omega arith) p) a in
      record {
        within = omega (arith, r.within);
        missing = field_of-past name f fs (ap is_eq over) ∙ r.missing;
        inserted = λ w. ap (λ (l : List (List ℕ × X)). f ∷ l) (r.inserted w) ∙ sym (with_field-past name f fs w over);
        kept = ap (λ (l : List (List ℕ × X)). f ∷ l) r.kept ∙ sym (without_field-past name f fs (ap is_eq over));
      }

  goes : (name : List ℕ) (fs : List (List ℕ × X)) (i : ℕ) → HasRisingNames fs → Missed fs name i → GoesTo fs name i
  goes name fs i s r = record {
    within = r.within;
    missing = r.missing;
    inserted = r.inserted;
    kept = r.kept;
    rises = λ w. subst (HasRisingNames {X = X}) (sym (r.inserted w)) (HasRisingNames-with_field fs name w s);
  }

  -- where the search ends
  pub goes_between : (name : List ℕ) (fs : List (List ℕ × X)) (low high : ℕ) → HasRisingNames fs → IsBetween fs name low high → high ≤ low → GoesTo fs name low
  goes_between name fs low high s h e =
      let same : high ≡ low = omega (arith, h.ordered) in
      let above_low : (f : List ℕ × X) → slice_get fs low ≡ Some f → name_cmp name f.0 ≡ Less = subst (λ (n : ℕ). (f : List ℕ × X) → slice_get fs n ≡ Some f → name_cmp name f.0 ≡ Less) same h.below in
      goes name fs low s (missed_at name fs low s (omega (arith, h.within)) h.above above_low)

  -- what a name compares to at a place says where the search goes on
  module _ (fs : List (List ℕ × X)) (name k : List ℕ) (m : ℕ) (e : List ℕ × X) (l : m < length fs) (read : k ≡ (get_or fs m e).0) where
    at_place : slice_get fs m ≡ Some (get_or fs m e)
    at_place = slice_get-get_or fs m e l

    pub stands_here : HasRisingNames fs → name_cmp name k ≡ Equal → StandsAt fs name m
    stands_here s h =
        let same : (get_or fs m e).0 ≡ name = sym read ∙ sym (same_from_equal name k h) in
        stands name (get_or fs m e).1 fs m s (at_place ∙ ap (λ (x : List ℕ). Some (x, (get_or fs m e).1)) same)

    pub goes_below : (low high : ℕ) → IsBetween fs name low high → low ≤ m → name_cmp name k ≡ Less → IsBetween fs name low m
    goes_below low high b lm h = record {
      ordered = lm;
      within = omega (arith, l);
      above = b.above;
      below = λ f p. let same : get_or fs m e ≡ f = same_Some _ _ (sym at_place ∙ p) in subst (λ (x : List ℕ). name_cmp name x ≡ Less) (read ∙ ap (λ (x : List ℕ × X). x.0) same) h;
    }

    pub goes_above : (low high : ℕ) → IsBetween fs name low high → m < high → name_cmp name k ≡ Greater → IsBetween fs name (m + 1) high
    goes_above low high b mh h = record {
      ordered = omega (arith, mh);
      within = b.within;
      above = λ j f q p.
          let here : j ≡ m = omega (arith, q) in
          let at : slice_get fs m ≡ Some f = subst (λ (n : ℕ). slice_get fs n ≡ Some f) here p in
          let same : get_or fs m e ≡ f = same_Some _ _ (sym at_place ∙ at) in
          subst (λ (x : List ℕ). name_cmp name x ≡ Greater) (read ∙ ap (λ (x : List ℕ × X). x.0) same) h;
      below = b.below;
    }
