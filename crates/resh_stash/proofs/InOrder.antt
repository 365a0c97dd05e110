-- Entries sorted by `_id` have the documents in their order.
use Rattle.std.proofs.Common.{◌≡◌, ◌+◌, Bool, true, false, ◌&&◌, T, List, [], ◌∷◌, Ordering, Less, Equal, Greater, get_or, map, refl, sym, ap, subst, ◌∙◌, arith}
use Rattle.std.proofs.lemmas.Map.Keys.{apart_from_distinct, sorted_from_all_adjacent, sorted_head, sorted_tail}
use Rattle.std.specs.FinMap.{from_sorted, is_sorted, entries-from_sorted, get-from_sorted, same_map, values}
use Rattle.std.specs.FinMap.Entries.{below_all}
use Rattle.std.specs.List.{AllByRecursion, IsDistinct}
use Rattle.std.specs.List.Sorted.{IsSorted, IsStrictlySortedBy}
use Rattle.std.specs.Map.{lookup, keys_of, values_of}
use Rattle.std.specs.Ordering.{is_eq, is_lt, ordering_reverse}
use Rattle.resh_value.specs.Order.{compare_of}
use Rattle.resh_value.specs.OrderLaws.{compare_total, compare_same}
use Rattle.resh_value.specs.declared.value.Value.{Value}
use Rattle.resh_stash.specs.Stored.{Document, gathered}
use Rattle.resh_stash.proofs.Gathered.{Entries, is_id, find_lookup, get_gathered}

-- neither above nor tied
must_rise : (r s : Ordering) → s ≡ ordering_reverse r → is_lt s ≡ false → is_eq r ≡ false → r ≡ Less
must_rise Less s e n a = refl
must_rise Equal s e n a = cc
must_rise Greater s e n a = let t : is_lt s ≡ true = ap is_lt e in cc

-- `_id`s in order that differ rise
rising : (ids : List Value) → IsSorted compare_of ids → IsDistinct is_id ids → IsStrictlySortedBy compare_of ids
unfolding IsStrictlySortedBy
rising [] sorted unique = tt
rising (x ∷ xs) sorted unique = sorted_from_all_adjacent compare_total (x ∷ xs) x (λ k h.
    must_rise _ (compare_of (get_or (x ∷ xs) (k + 1) x) (get_or (x ∷ xs) k x)) (compare_total.antisymm _ _) (sorted k x (omega arith) h) (apart_from_distinct is_id (x ∷ xs) k (k + 1) x unique (omega arith) h))

both : (a b : Bool) → T a → T b → T (a && b)
both true b p q = q
both false b p q = absurd p

all_below : (id : Value) (es : Entries) → AllByRecursion (λ y. compare_of id y ≡ Less) (keys_of es) → T (below_all compare_of id es)
all_below id [] all = tt
all_below id (e ∷ es) all = both _ _ (subst (λ r. T (is_lt r)) (sym all.0) tt) (all_below id es all.1)

in_order : (es : Entries) → IsStrictlySortedBy compare_of (keys_of es) → T (is_sorted compare_of es)
in_order [] rise = tt
in_order (e ∷ es) rise = both _ _ (all_below e.0 es (sorted_head compare_of e.0 (keys_of es) rise)) (in_order es (sorted_tail compare_of e.0 (keys_of es) rise))

-- entries sorted by `_id` have the documents in their order
pub values_in_order : (es fs : Entries) → IsSorted compare_of (keys_of fs) → IsDistinct is_id (keys_of fs) → ((q : Value) → lookup (is_id q) fs ≡ lookup (is_id q) es) → values_of fs ≡ values (gathered es)
values_in_order es fs sorted unique is =
    let order = in_order fs (rising (keys_of fs) sorted unique) in
    let same : from_sorted fs ≡ gathered es = same_map compare_total compare_same _ _ (λ q. get-from_sorted compare_of fs q order ∙ find_lookup q fs ∙ is q ∙ sym (get_gathered es q)) in
    ap (map (λ (e : Value × Document). e.1)) (sym (entries-from_sorted compare_of fs order)) ∙ ap values same
