-- States that are read alike have the same lists.
use Rattle.std.proofs.Common.{◌≡◌, ◌≢◌, ◌⊎◌, inl, inr, ℕ, List, [], ◌∷◌, map, Option, Some, None, refl, sym, ap, ◌∙◌, subst, arith, Less}
use Rattle.std.specs.List.{AllByRecursion, Contains}
use Rattle.std.specs.List.Sorted.{IsStrictlySortedBy}
use Rattle.std.specs.Ordering.{ordering_reverse}
use Rattle.resh_value.specs.Lookup.{id_of}
use Rattle.resh_value.specs.Order.{compare_of}
use Rattle.resh_value.specs.OrderLaws.{compare_total}
use Rattle.resh_value.specs.declared.value.Value.{Value}
use Rattle.resh_versions.specs.Chains.{Document}
use Rattle.resh_versions.specs.Laws.{KeepsLists}
use Rattle.resh_versions.specs.Standing.{VersionsOf, IsFiled, pruned, read, read_after, with_version}
use Rattle.resh_versions.proofs.Listing.{first_or_later, first_there, is_listed, later_there, lists_rise, was_read}
use Rattle.resh_versions.proofs.Pruning.{prunes_unseen}
use Rattle.resh_versions.proofs.WriteLaws.{adds_version, keeps_filed, reads_now}

abbrev Rise : List Document → Type 0
Rise ds = IsStrictlySortedBy compare_of (map id_of ds)

one_way : (a b : Value) → compare_of a b ≡ Less → compare_of b a ≢ Less
one_way a b less back = let turned : Less ≡ ordering_reverse Less = sym less ∙ compare_total.antisymm a b ∙ ap ordering_reverse back in cc

not_below_itself : (a : Value) → compare_of a a ≢ Less
not_below_itself a less = one_way a a less less

-- a later document has the greater `_id`
below : (d : Document) (ds : List Document) → Rise (d ∷ ds) → (e : Document) → Contains ds e → compare_of (id_of d) (id_of e) ≡ Less
unfolding IsStrictlySortedBy
below d ds rise e there = later ds rise.0 there
  where
    later : (es : List Document) → AllByRecursion (λ y. compare_of (id_of d) y ≡ Less) (map id_of es) → Contains es e → compare_of (id_of d) (id_of e) ≡ Less
    later [] all (k, within, is) = absurd (omega arith)
    later (x ∷ xs) all there = by (first_or_later x xs e there) (λ h. later xs all.1 h)
      where
        by : (x ≡ e) ⊎ Contains xs e → (Contains xs e → compare_of (id_of d) (id_of e) ≡ Less) → compare_of (id_of d) (id_of e) ≡ Less
        by (inl is) rest = ap (λ z. compare_of (id_of d) (id_of z)) (sym is) ∙ all.0
        by (inr h) rest = rest h

rest_rises : (d : Document) (ds : List Document) → Rise (d ∷ ds) → Rise ds
unfolding IsStrictlySortedBy
rest_rises d ds rise = rise.1

abbrev Among : List Document → List Document → Type 0
Among ds es = (d : Document) → Contains ds d → Contains es d

same_heads : (d e : Document) (ds es : List Document) → Rise (d ∷ ds) → Rise (e ∷ es) → Among (d ∷ ds) (e ∷ es) → Among (e ∷ es) (d ∷ ds) → d ≡ e
same_heads d e ds es r s into back = by (first_or_later e es d (into d (first_there d ds))) (first_or_later d ds e (back e (first_there e es)))
  where
    by : (e ≡ d) ⊎ Contains es d → (d ≡ e) ⊎ Contains ds e → d ≡ e
    by (inl is) other = sym is
    by (inr there) (inl is) = is
    by (inr there) (inr here) = absurd (one_way (id_of d) (id_of e) (below d ds r e here) (below e es s d there))

tails_among : (d e : Document) (ds es : List Document) → Rise (d ∷ ds) → d ≡ e → Among (d ∷ ds) (e ∷ es) → Among ds es
tails_among d e ds es r same into x there = by (first_or_later e es x (into x (later_there d ds x there)))
  where
    by : (e ≡ x) ⊎ Contains es x → Contains es x
    by (inl is) = absurd (not_below_itself (id_of x) (subst (λ z. compare_of (id_of z) (id_of x) ≡ Less) (same ∙ is) (below d ds r x there)))
    by (inr h) = h

nothing_there : (d : Document) → Contains [] d → ⊥
nothing_there d (k, within, is) = omega arith

same_lists : (ds es : List Document) → Rise ds → Rise es → Among ds es → Among es ds → ds ≡ es
same_lists [] [] r s into back = refl
same_lists [] (e ∷ es) r s into back = absurd (nothing_there e (back e (first_there e es)))
same_lists (d ∷ ds) [] r s into back = absurd (nothing_there d (into d (first_there d ds)))
same_lists (d ∷ ds) (e ∷ es) r s into back =
    let head = same_heads d e ds es r s into back in
    let tail = same_lists ds es (rest_rises d ds r) (rest_rises e es s) (tails_among d e ds es r head into) (tails_among e d es ds s (sym head) back) in
    λ i. head i ∷ tail i

-- read at moments that may differ
alike_lists : (s r : VersionsOf) (a b : Option ℕ) (after : Option Value) → IsFiled s.chains → IsFiled r.chains → ((id : Value) → read s a id ≡ read r b id) → read_after s a after ≡ read_after r b after
alike_lists s r a b after fs fr same =
    same_lists (read_after s a after) (read_after r b after) (lists_rise s a fs after) (lists_rise r b fr after)
    (λ d there. let w = was_read s a fs after d there in is_listed r b after (id_of d) d (sym (same (id_of d)) ∙ w.0) w.1)
    (λ d there. let w = was_read r b fr after d there in is_listed s a after (id_of d) d (same (id_of d) ∙ w.0) w.1)

pub keeps_lists : KeepsLists
keeps_lists = record {
  alike = λ s r time after fs fr same. alike_lists s r (Some time) (Some time) after fs fr same;
  alike_now = λ s r after fs fr same. alike_lists s r None None after fs fr same;
  later = λ s id v time after are stands lt. alike_lists (with_version s id v) s (Some time) (Some time) after (keeps_filed.added s id v are stands) are (λ other. adds_version.before s id other v time lt);
  after_pruning = λ s floor time after are le. alike_lists (pruned floor s) s (Some time) (Some time) after (keeps_filed.pruned s floor are) are (λ id. prunes_unseen.readings s floor time id le);
  after_pruning_now = λ s floor after are. alike_lists (pruned floor s) s None None after (keeps_filed.pruned s floor are) are (λ id. prunes_unseen.now s floor id);
  reads_now = λ s time after are all. alike_lists s s (Some time) None after are are (λ id. reads_now s time id (all id));
}
