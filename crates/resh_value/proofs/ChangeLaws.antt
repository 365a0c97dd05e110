-- The laws of changes.
use Rattle.std.proofs.Common.{◌≡◌, ℕ, ◌+◌, ◌<◌, ◌&&◌, is_none, Bool, true, false, cond, ◌||◌, List, [], ◌∷◌, ◌++◌, length, get_or, take, Option, Some, None, refl, ap, sym, ◌∙◌, subst}
use Rattle.std.specs.declared.cmp.Ordering.TheVariants.{Equal}
use Rattle.std.specs.Ordering.{is_eq}
use Rattle.std.proofs.lemmas.List.{take_more}
use Rattle.std.proofs.lemmas.Map.Keys.{sorted_head, sorted_tail}
use Rattle.std.specs.Map.{keys_of}
use Rattle.resh_value.specs.Names.{name_cmp, HasRisingNames}
use Rattle.resh_value.specs.Lookup.{field_of, with_field, without_field}
use Rattle.resh_value.specs.Change.{with_fields, without_fields, changed, are_apart, is_among, changed_value}
use Rattle.resh_value.proofs.Names.{by_order, same_from_equal}
use Rattle.resh_value.proofs.FieldLaws.{HasRisingNames-with_field, HasRisingNames-without_field, field_of-with_field, field_of-without_field, field_of-below}

and_parts : (a b : Bool) → (a && b) ≡ true → (a ≡ true) × (b ≡ true)
and_parts true b h = (refl, h)
and_parts false b h = cc

module _ {X : Type 0} where
  without_fields-push : (fs : List (List ℕ × X)) (names : List (List ℕ)) (name : List ℕ) → without_fields fs (names ++ name ∷ []) ≡ without_field (without_fields fs names) name
  without_fields-push fs [] name = refl
  without_fields-push fs (n ∷ ns) name = without_fields-push (without_field fs n) ns name

  -- one more of the names goes
  pub without_one_more : (fs gs hs : List (List ℕ × X)) (names : List (List ℕ)) (i : ℕ) (name : List ℕ) → hs ≡ without_field gs name → gs ≡ without_fields fs (take i names) → i < length names → name ≡ get_or names i name
      → hs ≡ without_fields fs (take (i + 1) names)
  without_one_more fs gs hs names i name h g l n =
      let last : take (i + 1) names ≡ take i names ++ name ∷ [] = take_more names i name l ∙ ap (λ (x : List ℕ). take i names ++ x ∷ []) (sym n) in
      h ∙ ap (λ (l : List (List ℕ × X)). without_field l name) g ∙ sym (without_fields-push fs (take i names) name) ∙ ap (λ (l : List (List ℕ)). without_fields fs l) (sym last)

  pub HasRisingNames-without_fields : (fs : List (List ℕ × X)) (names : List (List ℕ)) → HasRisingNames fs → HasRisingNames (without_fields fs names)
  HasRisingNames-without_fields fs [] s = s
  HasRisingNames-without_fields fs (n ∷ ns) s = HasRisingNames-without_fields (without_field fs n) ns (HasRisingNames-without_field fs n s)

  pub HasRisingNames-with_fields : (fs gs : List (List ℕ × X)) → HasRisingNames fs → HasRisingNames (with_fields fs gs)
  HasRisingNames-with_fields fs [] s = s
  HasRisingNames-with_fields fs (g ∷ gs) s = HasRisingNames-with_fields (with_field fs g.0 g.1) gs (HasRisingNames-with_field fs g.0 g.1 s)

  pub HasRisingNames-changed : (assign : List (List ℕ × X)) (unset : List (List ℕ)) (fs : List (List ℕ × X)) → HasRisingNames fs → HasRisingNames (changed assign unset fs)
  HasRisingNames-changed assign unset fs s = HasRisingNames-with_fields (without_fields fs unset) assign (HasRisingNames-without_fields fs unset s)

  gone_either : (a b : Bool) (o : Option X) → cond b None (cond a None o) ≡ cond (a || b) None o
  gone_either true true o = refl
  gone_either true false o = refl
  gone_either false b o = refl

  pub field_of-without_fields : (fs : List (List ℕ × X)) (names : List (List ℕ)) (q : List ℕ) → HasRisingNames fs → field_of (without_fields fs names) q ≡ cond (is_among names q) None (field_of fs q)
  field_of-without_fields fs [] q s = refl
  field_of-without_fields fs (n ∷ ns) q s =
      field_of-without_fields (without_field fs n) ns q (HasRisingNames-without_field fs n s)
      ∙ ap (λ (o : Option X). cond (is_among ns q) None o) (field_of-without_field fs n q s)
      ∙ gone_either (is_eq (name_cmp q n)) (is_among ns q) (field_of fs q)

  pub field_of-with_fields : (fs gs : List (List ℕ × X)) (q : List ℕ) → HasRisingNames gs → field_of (with_fields fs gs) q ≡ changed_value (field_of gs q) false (field_of fs q)
  field_of-with_fields fs [] q s = refl
  field_of-with_fields fs (g ∷ gs) q s =
      let rest : field_of (with_fields fs (g ∷ gs)) q ≡ changed_value (field_of gs q) false (cond (is_eq (name_cmp q g.0)) (Some g.1) (field_of fs q)) =
      field_of-with_fields (with_field fs g.0 g.1) gs q (sorted_tail name_cmp g.0 (keys_of gs) s) ∙ ap (λ (o : Option X). changed_value (field_of gs q) false o) (field_of-with_field fs g.0 q g.1) in
      let R : Bool → Type 0 = λ b. changed_value (field_of gs q) false (cond b (Some g.1) (field_of fs q)) ≡ changed_value (cond b (Some g.1) (field_of gs q)) false (field_of fs q) in
      let past : is_eq (name_cmp q g.0) ≡ false → R (is_eq (name_cmp q g.0)) = λ h. subst R (sym h) refl in
      let here : name_cmp q g.0 ≡ Equal → R (is_eq (name_cmp q g.0)) = λ h.
      let none : field_of gs q ≡ None = subst (λ (k : List ℕ). field_of gs k ≡ None) (sym (same_from_equal q g.0 h)) (field_of-below g.0 gs (sorted_head name_cmp g.0 (keys_of gs) s)) in
      subst R (sym (ap is_eq h)) (ap (λ (o : Option X). changed_value o false (Some g.1)) none) in
      rest ∙ by_order (name_cmp q g.0) (λ h. past (ap is_eq h)) here (λ h. past (ap is_eq h))

  value_after : (a : Option X) (gone : Bool) (old : Option X) → changed_value a false (cond gone None old) ≡ changed_value a gone old
  value_after (Some v) gone old = refl
  value_after None true old = refl
  value_after None false old = refl

  -- what stands under a name after a change
  pub field_of-changed : (assign : List (List ℕ × X)) (unset : List (List ℕ)) (fs : List (List ℕ × X)) (q : List ℕ) → HasRisingNames assign → HasRisingNames fs
      → field_of (changed assign unset fs) q ≡ changed_value (field_of assign q) (is_among unset q) (field_of fs q)
  field_of-changed assign unset fs q a s =
      field_of-with_fields (without_fields fs unset) assign q a
      ∙ ap (λ (o : Option X). changed_value (field_of assign q) false o) (field_of-without_fields fs unset q s)
      ∙ value_after (field_of assign q) (is_among unset q) (field_of fs q)

  is_none-none : (o : Option X) → is_none o ≡ true → o ≡ None
  is_none-none None h = refl
  is_none-none (Some v) h = cc

  -- a name that a change unsets isn't assigned by it
  pub not_assigned : (assign : List (List ℕ × X)) (unset : List (List ℕ)) (q : List ℕ) → are_apart assign unset ≡ true → is_among unset q ≡ true → field_of assign q ≡ None
  not_assigned assign [] q h m = cc
  not_assigned assign (n ∷ ns) q h m =
      let both = and_parts (is_none (field_of assign n)) (are_apart assign ns) h in
      let past : is_eq (name_cmp q n) ≡ false → field_of assign q ≡ None = λ e. not_assigned assign ns q both.1 (sym (ap (λ b. b || is_among ns q) e) ∙ m) in
      by_order (name_cmp q n) (λ e. past (ap is_eq e))
      (λ e. subst (λ (k : List ℕ). field_of assign k ≡ None) (sym (same_from_equal q n e)) (is_none-none (field_of assign n) both.0))
      (λ e. past (ap is_eq e))
