-- Pairs by rising keys: what an edit at a place makes of them.
use Rattle.std.proofs.Common.{◌≡◌, zero, suc, ℕ, ◌+◌, ◌<◌, ◌≤◌, Bool, true, false, not, cond, T, List, [], ◌∷◌, Option, Some, None, length, get_or, slice_get, slice_set, insert, remove, refl, ap, sym, ◌∙◌, arith, subst}
use Rattle.std.specs.Cmp.{IsTotalOrder, tied_itself}
use Rattle.std.specs.FinMap.{IsAntisymmetric, find, put}
use Rattle.std.specs.FinMap.Entries.{where_key, by_order}
use Rattle.std.specs.List.{AllByRecursion}
use Rattle.std.specs.List.Sorted.{IsStrictlySortedBy}
use Rattle.std.specs.Map.{keys_of}
use Rattle.std.specs.Ordering.{is_eq, eq_by_cmp, ordering_reverse}
use Rattle.std.specs.declared.cmp.Ordering.{Ordering}
use Rattle.std.specs.declared.cmp.Ordering.TheVariants.{Less, Equal, Greater}
use Rattle.std.proofs.lemmas.Map.Keys.{sorted_head, sorted_tail}
use Rattle.std.proofs.lemmas.Option.{slice_get-get_or, same_Some}

-- the entries of other keys
abbrev pub without_key : {K X : Type 0} → (K → K → Ordering) → K → List (K × X) → List (K × X)
without_key R k es = where_key R (λ x. not (eq_by_cmp R k x)) es

-- the entry of a key stands at a place
pub record Found {K X : Type 0} (R : K → K → Ordering) (k : K) (v : X) (es : List (K × X)) (i : ℕ) : Type 0 where
  pub within : i < length es
  pub found : find R k es ≡ Some v
  pub replaced : (w : X) → slice_set es i (k, w) ≡ put R k w es
  pub removed : remove es i ≡ without_key R k es

-- no entry has the key, and a new one goes to a place
pub record Missed {K X : Type 0} (R : K → K → Ordering) (k : K) (es : List (K × X)) (i : ℕ) : Type 0 where
  pub within : i ≤ length es
  pub missing : find R k es ≡ None
  pub inserted : (w : X) → insert es i (k, w) ≡ put R k w es
  pub kept : es ≡ without_key R k es

-- a key is above the entries before one place, and below those from another on
pub record IsBetween {K X : Type 0} (R : K → K → Ordering) (es : List (K × X)) (k : K) (low high : ℕ) : Type 0 where
  pub ordered : low ≤ high
  pub within : high ≤ length es
  pub above : (j : ℕ) (e : K × X) → j + 1 ≡ low → slice_get es j ≡ Some e → R k e.0 ≡ Greater
  pub below : (e : K × X) → slice_get es high ≡ Some e → R k e.0 ≡ Less

module _ {K X : Type 0} (R : K → K → Ordering) (k : K) (e : K × X) (es : List (K × X)) where
  find_here : R k e.0 ≡ Equal → find R k (e ∷ es) ≡ Some e.1
  find_here h = ap (λ r. cond (is_eq r) (Some e.1) (find R k es)) h

  find_past : is_eq (R k e.0) ≡ false → find R k (e ∷ es) ≡ find R k es
  find_past h = ap (λ b. cond b (Some e.1) (find R k es)) h

  without_here : R k e.0 ≡ Equal → without_key R k (e ∷ es) ≡ without_key R k es
  without_here h = ap (λ r. cond (not (is_eq r)) (e ∷ without_key R k es) (without_key R k es)) h

  without_past : is_eq (R k e.0) ≡ false → without_key R k (e ∷ es) ≡ e ∷ without_key R k es
  without_past h = ap (λ b. cond (not b) (e ∷ without_key R k es) (without_key R k es)) h

  module _ (w : X) where
    put_before : R k e.0 ≡ Less → put R k w (e ∷ es) ≡ (k, w) ∷ e ∷ es
    put_before h = ap (λ r. by_order r ((k, w) ∷ e ∷ es) ((e.0, w) ∷ es) (e ∷ put R k w es)) h

    put_here : R k e.0 ≡ Equal → put R k w (e ∷ es) ≡ (e.0, w) ∷ es
    put_here h = ap (λ r. by_order r ((k, w) ∷ e ∷ es) ((e.0, w) ∷ es) (e ∷ put R k w es)) h

    put_past : R k e.0 ≡ Greater → put R k w (e ∷ es) ≡ e ∷ put R k w es
    put_past h = ap (λ r. by_order r ((k, w) ∷ e ∷ es) ((e.0, w) ∷ es) (e ∷ put R k w es)) h

module _ {K : Type 0} {R : K → K → Ordering} (o : IsTotalOrder R) where
  above_from_below : (x y : K) → R x y ≡ Less → R y x ≡ Greater
  above_from_below x y h = o.antisymm y x ∙ ap ordering_reverse h

  below_from_above : (x y : K) → R x y ≡ Greater → R y x ≡ Less
  below_from_above x y h = o.antisymm y x ∙ ap ordering_reverse h

module _ {K X : Type 0} {R : K → K → Ordering} (o : IsTotalOrder R) where
  -- a key below another is below all that are above that one
  below_rest : (k m : K) (es : List (K × X)) → R k m ≡ Less → AllByRecursion (λ y. R m y ≡ Less) (keys_of es) → AllByRecursion (λ y. R k y ≡ Less) (keys_of es)
  below_rest k m [] h all = tt
  below_rest k m (e ∷ es) h all = (o.trans k m e.0 h all.0, below_rest k m es h all.1)

  not_found : (k : K) (es : List (K × X)) → AllByRecursion (λ y. R k y ≡ Less) (keys_of es) → find R k es ≡ None
  not_found k [] all = refl
  not_found k (e ∷ es) all = find_past R k e es (ap is_eq all.0) ∙ not_found k es all.1

  all_kept : (k : K) (es : List (K × X)) → AllByRecursion (λ y. R k y ≡ Less) (keys_of es) → without_key R k es ≡ es
  all_kept k [] all = refl
  all_kept k (e ∷ es) all = without_past R k e es (ap is_eq all.0) ∙ ap (λ l. e ∷ l) (all_kept k es all.1)

  -- what stands among later entries is above the first
  above_first : (k : K) (es : List (K × X)) (i : ℕ) (e : K × X) → AllByRecursion (λ y. R k y ≡ Less) (keys_of es) → slice_get es i ≡ Some e → R k e.0 ≡ Less
  above_first k [] i e all h = cc
  above_first k (f ∷ es) zero e all h = let is : f ≡ e = cc in subst (λ (x : K × X). R k x.0 ≡ Less) is all.0
  above_first k (f ∷ es) (suc i) e all h = above_first k es i e all.1 h

  pub found_at : (k : K) (v : X) (es : List (K × X)) (i : ℕ) → IsStrictlySortedBy R (keys_of es) → slice_get es i ≡ Some (k, v) → Found R k v es i
  found_at k v [] i s h = cc
  found_at k v (e ∷ es) zero s h =
      let is : e ≡ (k, v) = cc in
      let key : e.0 ≡ k = ap (λ (x : K × X). x.0) is in
      let at : R k e.0 ≡ Equal = ap (R k) key ∙ tied_itself o k in
      let rest : AllByRecursion (λ y. R k y ≡ Less) (keys_of es) = subst (λ (m : K). AllByRecursion (λ y. R m y ≡ Less) (keys_of es)) key (sorted_head R e.0 (keys_of es) s) in
      record {
        within = omega arith;
        found = find_here R k e es at ∙ ap (λ (x : K × X). Some x.1) is;
        replaced = λ w. ap (λ (m : K). (m, w) ∷ es) (sym key) ∙ sym (put_here R k e es w at);
        removed = sym (without_here R k e es at ∙ all_kept k es rest);
      }
  found_at k v (e ∷ es) (suc i) s h =
      let r = found_at k v es i (sorted_tail R e.0 (keys_of es) s) h in
      let above : R k e.0 ≡ Greater = above_from_below o e.0 k (above_first e.0 es i (k, v) (sorted_head R e.0 (keys_of es) s) h) in
      record {
        within = omega (arith, r.within);
        found = find_past R k e es (ap is_eq above) ∙ r.found;
        replaced = λ w. ap (λ l. e ∷ l) (r.replaced w) ∙ sym (put_past R k e es w above);
        removed = ap (λ l. e ∷ l) r.removed ∙ sym (without_past R k e es (ap is_eq above));
      }

  -- a key above a later entry is above the first
  over_first : (k : K) (e : K × X) (es : List (K × X)) (i : ℕ) → IsStrictlySortedBy R (keys_of (e ∷ es)) → i ≤ length es
      → ((j : ℕ) (f : K × X) → j + 1 ≡ suc i → slice_get (e ∷ es) j ≡ Some f → R k f.0 ≡ Greater) → R k e.0 ≡ Greater
  over_first k e es zero s l b = b 0 e (omega arith) refl
  over_first k e es (suc i) s l b =
      let at : slice_get es i ≡ Some (get_or es i e) = slice_get-get_or es i e (omega arith) in
      let below : R e.0 (get_or es i e).0 ≡ Less = above_first e.0 es i (get_or es i e) (sorted_head R e.0 (keys_of es) s) at in
      let under : R (get_or es i e).0 k ≡ Less = below_from_above o k (get_or es i e).0 (b (suc i) (get_or es i e) (omega arith) at) in
      above_from_below o e.0 k (o.trans e.0 (get_or es i e).0 k below under)

  missed_at : (k : K) (es : List (K × X)) (i : ℕ) → IsStrictlySortedBy R (keys_of es) → i ≤ length es
      → ((j : ℕ) (e : K × X) → j + 1 ≡ i → slice_get es j ≡ Some e → R k e.0 ≡ Greater)
      → ((e : K × X) → slice_get es i ≡ Some e → R k e.0 ≡ Less) → Missed R k es i
  missed_at k [] zero s l b a = record { within = omega arith; missing = refl; inserted = λ w. refl; kept = refl }
  missed_at k [] (suc i) s l b a = absurd (omega arith)
  missed_at k (e ∷ es) zero s l b a =
      let under : R k e.0 ≡ Less = a e refl in
      let all = below_rest k e.0 es under (sorted_head R e.0 (keys_of es) s) in
      record {
        within = omega arith;
        missing = not_found k (e ∷ es) (under, all);
        inserted = λ w. sym (put_before R k e es w under);
        kept = sym (all_kept k (e ∷ es) (under, all));
      }
  missed_at k (e ∷ es) (suc i) s l b a =
      let over : R k e.0 ≡ Greater = over_first k e es i s (omega arith) b in
      let r = missed_at k es i (sorted_tail R e.0 (keys_of es) s) (omega arith) (λ j f q p. b (suc j) f (omega arith) p) a in
      record {
        within = omega (arith, r.within);
        missing = find_past R k e es (ap is_eq over) ∙ r.missing;
        inserted = λ w. ap (λ l. e ∷ l) (r.inserted w) ∙ sym (put_past R k e es w over);
        kept = ap (λ l. e ∷ l) r.kept ∙ sym (without_past R k e es (ap is_eq over));
      }

  -- where the search ends
  pub missed_between : (k : K) (es : List (K × X)) (low high : ℕ) → IsStrictlySortedBy R (keys_of es) → IsBetween R es k low high → high ≤ low → Missed R k es low
  missed_between k es low high s b le =
      let same : high ≡ low = omega (arith, b.ordered) in
      missed_at k es low s (omega (arith, b.within)) b.above (subst (λ (n : ℕ). (e : K × X) → slice_get es n ≡ Some e → R k e.0 ≡ Less) same b.below)

-- how a key stands to the entry at a place says where the search goes on
module _ {K X : Type 0} (R : K → K → Ordering) (es : List (K × X)) (k : K) (m : ℕ) (e : K × X) (at : slice_get es m ≡ Some e) where
  pub between_below : (low high : ℕ) → IsBetween R es k low high → low ≤ m → m < high → R k e.0 ≡ Less → IsBetween R es k low m
  between_below low high b lm mh h = record {
    ordered = lm;
    within = omega (arith, b.within);
    above = b.above;
    below = λ f p. let same : e ≡ f = same_Some _ _ (sym at ∙ p) in subst (λ (x : K × X). R k x.0 ≡ Less) same h;
  }

  pub between_above : (low high : ℕ) → IsBetween R es k low high → m < high → R k e.0 ≡ Greater → IsBetween R es k (m + 1) high
  between_above low high b mh h = record {
    ordered = omega arith;
    within = b.within;
    above = λ j f q p.
        let here : j ≡ m = omega (arith, q) in
        let same : e ≡ f = same_Some _ _ (sym at ∙ subst (λ (n : ℕ). slice_get es n ≡ Some f) here p) in
        subst (λ (x : K × X). R k x.0 ≡ Greater) same h;
    below = b.below;
  }
