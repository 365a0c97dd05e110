-- Finite maps: what is found is an entry, and an entry is found.
use Rattle.std.proofs.Common.{◌≡◌, Bool, true, false, ◌&&◌, cond, T, List, [], ◌∷◌, Some, None, refl, sym, ap, ◌∙◌}
use Rattle.std.proofs.lemmas.List.Sorted.{IsPermutation-refl, IsPermutation-cons, IsPermutation-trans, IsPermutation-middle}
use Rattle.std.proofs.lemmas.Map.Keys.{IsDistinct-from_sorted}
use Rattle.std.proofs.lemmas.Map.Views.{Contains-from_lookup, lookup-from_Contains, tells_apart}
use Rattle.std.specs.Cmp.{IsTotalOrder, eq_by_cmp_equiv}
use Rattle.std.specs.FinMap.{FinMap, IsAntisymmetric, get, get-entries, entries, entries_sorted, find, put, is_sorted}
use Rattle.std.specs.FinMap.Entries.{below_all, by_order}
use Rattle.std.specs.List.{AllByRecursion, Contains}
use Rattle.std.specs.List.Sorted.{IsPermutation, IsStrictlySortedBy}
use Rattle.std.specs.Map.{lookup, keys_of}
use Rattle.std.specs.Ordering.{eq_by_cmp, is_lt, is_eq}
use Rattle.std.specs.declared.cmp.Ordering.{Ordering}
use Rattle.std.specs.declared.cmp.Ordering.TheVariants.{Less, Equal, Greater}

less : (r : Ordering) → T (is_lt r) → r ≡ Less
less Less t = refl
less Equal t = absurd t
less Greater t = absurd t

both : (a b : Bool) → T (a && b) → T a × T b
both true b t = (tt, t)
both false b t = absurd t

module _ {K X : Type 0} (R : K → K → Ordering) where
  all_below : (k : K) (es : List (K × X)) → T (below_all R k es) → AllByRecursion (λ y. R k y ≡ Less) (keys_of es)
  all_below k [] t = tt
  all_below k (e ∷ es) t = let p = both _ _ t in (less (R k e.0) p.0, all_below k es p.1)

  -- the keys of entries in order rise
  pub keys_rise : (es : List (K × X)) → T (is_sorted R es) → IsStrictlySortedBy R (keys_of es)
  unfolding IsStrictlySortedBy
  keys_rise [] t = tt
  keys_rise (e ∷ es) t = let p = both _ _ t in (all_below e.0 es p.0, keys_rise es p.1)

  find_lookup : (q : K) (es : List (K × X)) → find R q es ≡ lookup (eq_by_cmp R q) es
  find_lookup q [] = refl
  find_lookup q (e ∷ es) = ap (cond (eq_by_cmp R q e.0) (Some e.1)) (find_lookup q es)

module _ {K X : Type 0} {R : K → K → Ordering} (o : IsTotalOrder R) (same : IsAntisymmetric R) where
  pub found_entry : (m : FinMap R X) (q : K) (v : X) → get m q ≡ Some v → Contains (entries m) (q, v)
  found_entry m q v is = Contains-from_lookup (tells_apart same) q v (entries m) (sym (find_lookup R q (entries m)) ∙ sym (get-entries m q) ∙ is)

  pub entry_found : (m : FinMap R X) (q : K) (v : X) → Contains (entries m) (q, v) → get m q ≡ Some v
  entry_found m q v there =
      let rise = keys_rise R (entries m) (entries_sorted m) in
      get-entries m q ∙ find_lookup R q (entries m) ∙ lookup-from_Contains (eq_by_cmp_equiv o) q v (entries m) (IsDistinct-from_sorted R _ rise) there

-- a new key is put among the entries
module _ {K X : Type 0} (R : K → K → Ordering) (k : K) (v : X) where
  pub put_new : (es : List (K × X)) → find R k es ≡ None → IsPermutation ((k, v) ∷ es) (put R k v es)
  put_new [] none = IsPermutation-refl _
  put_new (e ∷ es) none = by (R k e.0) none (λ n. IsPermutation-trans _ _ _ (IsPermutation-middle ((k, v) ∷ []) e es) (IsPermutation-cons e _ _ (put_new es n)))
    where
      by : (r : Ordering) → cond (is_eq r) (Some e.1) (find R k es) ≡ None → (find R k es ≡ None → IsPermutation ((k, v) ∷ e ∷ es) (e ∷ put R k v es))
          → IsPermutation ((k, v) ∷ e ∷ es) (by_order r ((k, v) ∷ e ∷ es) ((e.0, v) ∷ es) (e ∷ put R k v es))
      by Less n rest = IsPermutation-refl _
      by Equal n rest = cc
      by Greater n rest = rest n
