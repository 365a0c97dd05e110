-- The laws of fields by name.
use Rattle.std.proofs.Common.{◌≡◌, ℕ, Bool, false, cond, List, [], ◌∷◌, Option, Some, None, refl, ap, sym, ◌∙◌, subst}
use Rattle.std.specs.declared.cmp.Ordering.TheVariants.{Less}
use Rattle.std.specs.Ordering.{is_eq}
use Rattle.std.specs.List.{AllByRecursion}
use Rattle.std.specs.List.Sorted.{IsStrictlySortedBy}
use Rattle.std.specs.Map.{keys_of}
use Rattle.resh_value.specs.Names.{name_cmp, HasRisingNames}
use Rattle.resh_value.specs.Lookup.{field_of, with_field, without_field}
use Rattle.resh_value.proofs.Names.{name_cmp_total, name_cmp-itself, less_from_greater, same_from_equal, by_order}
use Rattle.resh_value.proofs.FieldSteps.{field_of-here, field_of-past, with_field-before, with_field-here, with_field-past, without_field-here, without_field-past}

module _ {X : Type 0} where
  -- names above one that are above another too
  pub above_all : (k m : List ℕ) (fs : List (List ℕ × X)) → name_cmp k m ≡ Less → AllByRecursion (λ y. name_cmp m y ≡ Less) (keys_of fs) → AllByRecursion (λ y. name_cmp k y ≡ Less) (keys_of fs)
  above_all k m [] h a = tt
  above_all k m (f ∷ fs) h a = (name_cmp_total.trans k m f.0 h a.0, above_all k m fs h a.1)

  all_with_field : (P : List ℕ → Type 0) (fs : List (List ℕ × X)) (name : List ℕ) (v : X) → P name → AllByRecursion P (keys_of fs) → AllByRecursion P (keys_of (with_field fs name v))
  all_with_field P [] name v p a = (p, tt)
  all_with_field P (f ∷ fs) name v p a =
      let R : List (List ℕ × X) → Type 0 = λ l. AllByRecursion P (keys_of l) in
      by_order (name_cmp name f.0)
      (λ h. subst R (sym (with_field-before name f fs v h)) (p, a))
      (λ h. subst R (sym (with_field-here name f fs v h)) a)
      (λ h. subst R (sym (with_field-past name f fs v h)) (a.0, all_with_field P fs name v p a.1))

  all_without_field : (P : List ℕ → Type 0) (fs : List (List ℕ × X)) (name : List ℕ) → AllByRecursion P (keys_of fs) → AllByRecursion P (keys_of (without_field fs name))
  all_without_field P [] name a = tt
  all_without_field P (f ∷ fs) name a =
      let R : List (List ℕ × X) → Type 0 = λ l. AllByRecursion P (keys_of l) in
      by_order (name_cmp name f.0)
      (λ h. subst R (sym (without_field-past name f fs (ap is_eq h))) (a.0, all_without_field P fs name a.1))
      (λ h. subst R (sym (without_field-here name f fs h)) a.1)
      (λ h. subst R (sym (without_field-past name f fs (ap is_eq h))) (a.0, all_without_field P fs name a.1))

  -- names still rise
  pub HasRisingNames-with_field : (fs : List (List ℕ × X)) (name : List ℕ) (v : X) → HasRisingNames fs → HasRisingNames (with_field fs name v)
  unfolding IsStrictlySortedBy
  HasRisingNames-with_field [] name v s = (tt, tt)
  HasRisingNames-with_field (f ∷ fs) name v s =
      by_order (name_cmp name f.0)
      (λ h. subst (HasRisingNames {X = X}) (sym (with_field-before name f fs v h)) ((h, above_all name f.0 fs h s.0), s))
      (λ h. subst (HasRisingNames {X = X}) (sym (with_field-here name f fs v h)) s)
      (λ h. subst (HasRisingNames {X = X}) (sym (with_field-past name f fs v h)) (all_with_field (λ y. name_cmp f.0 y ≡ Less) fs name v (less_from_greater name f.0 h) s.0, HasRisingNames-with_field fs name v s.1))

  pub HasRisingNames-without_field : (fs : List (List ℕ × X)) (name : List ℕ) → HasRisingNames fs → HasRisingNames (without_field fs name)
  unfolding IsStrictlySortedBy
  HasRisingNames-without_field [] name s = tt
  HasRisingNames-without_field (f ∷ fs) name s =
      let past : is_eq (name_cmp name f.0) ≡ false → HasRisingNames (without_field (f ∷ fs) name) = λ h. subst (HasRisingNames {X = X}) (sym (without_field-past name f fs h)) (all_without_field (λ y. name_cmp f.0 y ≡ Less) fs name s.0, HasRisingNames-without_field fs name s.1) in
      by_order (name_cmp name f.0) (λ h. past (ap is_eq h)) (λ h. subst (HasRisingNames {X = X}) (sym (without_field-here name f fs h)) s.1) (λ h. past (ap is_eq h))

  -- what stands under a name after a put
  pub field_of-with_field_same : (fs : List (List ℕ × X)) (name : List ℕ) (v : X) → field_of (with_field fs name v) name ≡ Some v
  field_of-with_field_same [] name v = field_of-here name (name, v) [] (name_cmp-itself name)
  field_of-with_field_same (f ∷ fs) name v =
      let R : List (List ℕ × X) → Type 0 = λ l. field_of l name ≡ Some v in
      by_order (name_cmp name f.0)
      (λ h. subst R (sym (with_field-before name f fs v h)) (field_of-here name (name, v) (f ∷ fs) (name_cmp-itself name)))
      (λ h. subst R (sym (with_field-here name f fs v h)) (field_of-here name (f.0, v) fs h))
      (λ h. subst R (sym (with_field-past name f fs v h)) (field_of-past name f (with_field fs name v) (ap is_eq h) ∙ field_of-with_field_same fs name v))

  pub field_of-with_field_other : (fs : List (List ℕ × X)) (name other : List ℕ) (v : X) → is_eq (name_cmp other name) ≡ false → field_of (with_field fs name v) other ≡ field_of fs other
  field_of-with_field_other [] name other v n = field_of-past other (name, v) [] n
  field_of-with_field_other (f ∷ fs) name other v n =
      let R : List (List ℕ × X) → Type 0 = λ l. field_of l other ≡ field_of (f ∷ fs) other in
      by_order (name_cmp name f.0)
      (λ h. subst R (sym (with_field-before name f fs v h)) (field_of-past other (name, v) (f ∷ fs) n))
      (λ h.
      let past : is_eq (name_cmp other f.0) ≡ false = subst (λ (k : List ℕ). is_eq (name_cmp other k) ≡ false) (same_from_equal name f.0 h) n in
      subst R (sym (with_field-here name f fs v h)) (field_of-past other (f.0, v) fs past ∙ sym (field_of-past other f fs past)))
      (λ h. subst R (sym (with_field-past name f fs v h)) (ap (λ (o : Option X). cond (is_eq (name_cmp other f.0)) (Some f.1) o) (field_of-with_field_other fs name other v n)))

  pub field_of-with_field : (fs : List (List ℕ × X)) (name other : List ℕ) (v : X) → field_of (with_field fs name v) other ≡ cond (is_eq (name_cmp other name)) (Some v) (field_of fs other)
  field_of-with_field fs name other v =
      let R : Bool → Type 0 = λ b. field_of (with_field fs name v) other ≡ cond b (Some v) (field_of fs other) in
      let unlike : is_eq (name_cmp other name) ≡ false → R (is_eq (name_cmp other name)) = λ h. subst R (sym h) (field_of-with_field_other fs name other v h) in
      by_order (name_cmp other name) (λ h. unlike (ap is_eq h))
      (λ h. subst R (sym (ap is_eq h)) (subst (λ (k : List ℕ). field_of (with_field fs name v) k ≡ Some v) (sym (same_from_equal other name h)) (field_of-with_field_same fs name v)))
      (λ h. unlike (ap is_eq h))

  -- a name below rising names isn't among them
  pub field_of-below : (name : List ℕ) (fs : List (List ℕ × X)) → AllByRecursion (λ y. name_cmp name y ≡ Less) (keys_of fs) → field_of fs name ≡ None
  field_of-below name [] a = refl
  field_of-below name (f ∷ fs) a = field_of-past name f fs (ap is_eq a.0) ∙ field_of-below name fs a.1

  -- what stands under a name after a removal
  pub field_of-without_field_same : (fs : List (List ℕ × X)) (name : List ℕ) → HasRisingNames fs → field_of (without_field fs name) name ≡ None
  unfolding IsStrictlySortedBy
  field_of-without_field_same [] name s = refl
  field_of-without_field_same (f ∷ fs) name s =
      let R : List (List ℕ × X) → Type 0 = λ l. field_of l name ≡ None in
      let past : is_eq (name_cmp name f.0) ≡ false → R (without_field (f ∷ fs) name) = λ h. subst R (sym (without_field-past name f fs h)) (field_of-past name f (without_field fs name) h ∙ field_of-without_field_same fs name s.1) in
      by_order (name_cmp name f.0) (λ h. past (ap is_eq h))
      (λ h. subst R (sym (without_field-here name f fs h)) (subst (λ (k : List ℕ). field_of fs k ≡ None) (sym (same_from_equal name f.0 h)) (field_of-below f.0 fs s.0)))
      (λ h. past (ap is_eq h))

  pub field_of-without_field_other : (fs : List (List ℕ × X)) (name other : List ℕ) → is_eq (name_cmp other name) ≡ false → field_of (without_field fs name) other ≡ field_of fs other
  field_of-without_field_other [] name other n = refl
  field_of-without_field_other (f ∷ fs) name other n =
      let R : List (List ℕ × X) → Type 0 = λ l. field_of l other ≡ field_of (f ∷ fs) other in
      let past : is_eq (name_cmp name f.0) ≡ false → R (without_field (f ∷ fs) name) = λ h. subst R (sym (without_field-past name f fs h)) (ap (λ (o : Option X). cond (is_eq (name_cmp other f.0)) (Some f.1) o) (field_of-without_field_other fs name other n)) in
      by_order (name_cmp name f.0) (λ h. past (ap is_eq h))
      (λ h. subst R (sym (without_field-here name f fs h)) (sym (field_of-past other f fs (subst (λ (k : List ℕ). is_eq (name_cmp other k) ≡ false) (same_from_equal name f.0 h) n))))
      (λ h. past (ap is_eq h))

  pub field_of-without_field : (fs : List (List ℕ × X)) (name other : List ℕ) → HasRisingNames fs → field_of (without_field fs name) other ≡ cond (is_eq (name_cmp other name)) None (field_of fs other)
  field_of-without_field fs name other s =
      let R : Bool → Type 0 = λ b. field_of (without_field fs name) other ≡ cond b None (field_of fs other) in
      let unlike : is_eq (name_cmp other name) ≡ false → R (is_eq (name_cmp other name)) = λ h. subst R (sym h) (field_of-without_field_other fs name other h) in
      by_order (name_cmp other name) (λ h. unlike (ap is_eq h))
      (λ h. subst R (sym (ap is_eq h)) (subst (λ (k : List ℕ). field_of (without_field fs name) k ≡ None) (sym (same_from_equal other name h)) (field_of-without_field_same fs name s)))
      (λ h. unlike (ap is_eq h))

  -- fields with rising names that have the same under each name are the same
  pub same_fields : (fs gs : List (List ℕ × X)) → HasRisingNames fs → HasRisingNames gs → ((name : List ℕ) → field_of fs name ≡ field_of gs name) → fs ≡ gs
  unfolding IsStrictlySortedBy
  same_fields [] [] s t h = refl
  same_fields [] (g ∷ gs) s t h = let e : None ≡ Some g.1 = h g.0 ∙ field_of-here g.0 g gs (name_cmp-itself g.0) in cc
  same_fields (f ∷ fs) [] s t h = let e : Some f.1 ≡ None = sym (field_of-here f.0 f fs (name_cmp-itself f.0)) ∙ h f.0 in cc
  same_fields (f ∷ fs) (g ∷ gs) s t h =
      by_order (name_cmp f.0 g.0)
      (λ l. let e : Some f.1 ≡ None = sym (field_of-here f.0 f fs (name_cmp-itself f.0)) ∙ h f.0 ∙ field_of-below f.0 (g ∷ gs) (l, above_all f.0 g.0 gs l t.0) in cc)
      (λ l.
      let k : f.0 ≡ g.0 = same_from_equal f.0 g.0 l in
      let e : Some f.1 ≡ Some g.1 = sym (field_of-here f.0 f fs (name_cmp-itself f.0)) ∙ h f.0 ∙ field_of-here f.0 g gs l in
      let v : f.1 ≡ g.1 = cc in
      let rest : fs ≡ gs = same_fields fs gs s.1 t.1 (λ q. same_rest f g fs gs s.0 t.0 k h q) in
      λ i. (k i, v i) ∷ rest i)
      (λ l. let e : None ≡ Some g.1 = sym (field_of-below g.0 (f ∷ fs) (less_from_greater f.0 g.0 l, above_all g.0 f.0 fs (less_from_greater f.0 g.0 l) s.0)) ∙ h g.0 ∙ field_of-here g.0 g gs (name_cmp-itself g.0) in cc)
    where
      same_rest : (f g : List ℕ × X) (fs gs : List (List ℕ × X)) → AllByRecursion (λ y. name_cmp f.0 y ≡ Less) (keys_of fs) → AllByRecursion (λ y. name_cmp g.0 y ≡ Less) (keys_of gs) → f.0 ≡ g.0 → ((name : List ℕ) → field_of (f ∷ fs) name ≡ field_of (g ∷ gs) name) → (q : List ℕ) → field_of fs q ≡ field_of gs q
      same_rest f g fs gs a b k h q =
          let past : is_eq (name_cmp q f.0) ≡ false → field_of fs q ≡ field_of gs q = λ n. sym (field_of-past q f fs n) ∙ h q ∙ field_of-past q g gs (subst (λ (x : List ℕ). is_eq (name_cmp q x) ≡ false) k n) in
          by_order (name_cmp q f.0) (λ l. past (ap is_eq l))
          (λ l. let e : q ≡ f.0 = same_from_equal q f.0 l in subst (λ (x : List ℕ). field_of fs x ≡ field_of gs x) (sym e) (field_of-below f.0 fs a ∙ sym (field_of-below f.0 gs (subst (λ (x : List ℕ). AllByRecursion (λ y. name_cmp x y ≡ Less) (keys_of gs)) (sym k) b))))
          (λ l. past (ap is_eq l))
