-- Entries in the order of their keys, and what is found among them.
use Rattle.std.proofs.Common.{◌≡◌, ◌↔◌, Bool, true, false, ◌&&◌, cond, T, List, [], ◌∷◌, Some, refl, sym, ap, ◌∙◌, subst}
use Rattle.std.proofs.lemmas.Map.Keys.{IsDistinct-from_sorted, sorted_head, sorted_tail}
use Rattle.std.proofs.lemmas.Map.Views.{Contains-from_lookup, lookup-from_Contains, tells_apart}
use Rattle.std.specs.Cmp.{IsTotalOrder, eq_by_cmp_equiv}
use Rattle.std.specs.FinMap.{FinMap, IsAntisymmetric, get, get-entries, entries, entries_sorted, find, is_sorted}
use Rattle.std.specs.FinMap.Entries.{below_all}
use Rattle.std.specs.List.{AllByRecursion, Contains}
use Rattle.std.specs.List.Sorted.{IsStrictlySortedBy}
use Rattle.std.specs.Map.{lookup, keys_of}
use Rattle.std.specs.Ordering.{eq_by_cmp, is_lt}
use Rattle.std.specs.declared.cmp.Ordering.{Ordering}
use Rattle.std.specs.declared.cmp.Ordering.TheVariants.{Less, Equal, Greater}

pub less_from_lt : (r : Ordering) → T (is_lt r) → r ≡ Less
less_from_lt Less t = refl
less_from_lt Equal t = absurd t
less_from_lt Greater t = absurd t

-- a test that holds is true
pub true_from_T : (b : Bool) → T b → b ≡ true
true_from_T true t = refl
true_from_T false t = absurd t

pub T_from_true : (b : Bool) → b ≡ true → T b
T_from_true b e = subst T (sym e) tt

-- both of two tests
pub both_hold : (a b : Bool) → T (a && b) → T a × T b
both_hold true b t = (tt, t)
both_hold false b t = absurd t

pub hold_both : (a b : Bool) → T a → T b → T (a && b)
hold_both true b s t = t
hold_both false b s t = absurd s

module _ {K X : Type 0} (R : K → K → Ordering) where
  keys_above : (k : K) (es : List (K × X)) → T (below_all R k es) → AllByRecursion (λ y. R k y ≡ Less) (keys_of es)
  keys_above k [] t = tt
  keys_above k (e ∷ es) t = let p = both_hold _ _ t in (less_from_lt (R k e.0) p.0, keys_above k es p.1)

  all_below : (k : K) (es : List (K × X)) → AllByRecursion (λ y. R k y ≡ Less) (keys_of es) → T (below_all R k es)
  all_below k [] a = tt
  all_below k (e ∷ es) a = hold_both _ _ (subst (λ r. T (is_lt r)) (sym a.0) tt) (all_below k es a.1)

  -- the keys of entries in order rise
  pub keys_rise : (es : List (K × X)) → T (is_sorted R es) → IsStrictlySortedBy R (keys_of es)
  unfolding IsStrictlySortedBy
  keys_rise [] t = tt
  keys_rise (e ∷ es) t = let p = both_hold _ _ t in (keys_above e.0 es p.0, keys_rise es p.1)

  -- entries whose keys rise are in order
  pub in_order : (es : List (K × X)) → IsStrictlySortedBy R (keys_of es) → T (is_sorted R es)
  in_order [] s = tt
  in_order (e ∷ es) s = hold_both _ _ (all_below e.0 es (sorted_head R e.0 (keys_of es) s)) (in_order es (sorted_tail R e.0 (keys_of es) s))

  -- the test of order says that the keys rise
  pub order_decides : (es : List (K × X)) → (is_sorted R es ≡ true) ↔ IsStrictlySortedBy R (keys_of es)
  order_decides es = (λ e. keys_rise es (T_from_true _ e), λ s. true_from_T _ (in_order es s))

  pub find_lookup : (q : K) (es : List (K × X)) → find R q es ≡ lookup (eq_by_cmp R q) es
  find_lookup q [] = refl
  find_lookup q (e ∷ es) = ap (cond (eq_by_cmp R q e.0) (Some e.1)) (find_lookup q es)

-- what a map finds is an entry of it, and each entry is found
module _ {K X : Type 0} {R : K → K → Ordering} (o : IsTotalOrder R) (same : IsAntisymmetric R) where
  pub found_entry : (m : FinMap R X) (q : K) (v : X) → get m q ≡ Some v → Contains (entries m) (q, v)
  found_entry m q v is = Contains-from_lookup (tells_apart same) q v (entries m) (sym (find_lookup R q (entries m)) ∙ sym (get-entries m q) ∙ is)

  pub entry_found : (m : FinMap R X) (q : K) (v : X) → Contains (entries m) (q, v) → get m q ≡ Some v
  entry_found m q v there =
      let rise = keys_rise R (entries m) (entries_sorted m) in
      get-entries m q ∙ find_lookup R q (entries m) ∙ lookup-from_Contains (eq_by_cmp_equiv o) q v (entries m) (IsDistinct-from_sorted R _ rise) there
