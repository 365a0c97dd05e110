-- Stamps and marks are totally ordered, no two are alike, and a time's last mark is below the later ones.
use Rattle.std.proofs.Common.{rules, ◌≡◌, ℕ, ◌<◌, ◌≤◌, ◌-◌, ◌^◌, true, false, nat_lt, Less, Equal, Greater, refl, sym, ap, ◌∙◌, arith, ⊎_elim}
use Rattle.std.proofs.lemmas.Bool.{cases_lt}
use Rattle.std.specs.Cmp.{IsTotalOrder, nat_cmp_is, on_total, then_total, nat_cmp_total}
use Rattle.std.specs.Ordering.{is_lt, nat_cmp, ordering_then}
use Rattle.std.specs.declared.cmp.Ordering.{Ordering}
use Rattle.resh_stamp.specs.Laws.{IsStrictOrder, TimesEnd}
use Rattle.resh_stamp.specs.Times.{mark_cmp, stamp_cmp}
use Rattle.resh_stamp.specs.declared.stamp.Stamp.{Stamp}
use Rattle.resh_stamp.specs.declared.stamp.Mark.{Mark}

pub stamp_total : IsTotalOrder stamp_cmp
stamp_total = then_total (on_total (λ (s : Stamp). s.time) nat_cmp_total) (on_total (λ (s : Stamp). s.node) nat_cmp_total)

pub mark_total : IsTotalOrder mark_cmp
mark_total = then_total (on_total (λ (m : Mark). m.stamp) stamp_total) (on_total (λ (m : Mark). m.part) nat_cmp_total)

-- both parts of an order's answer are equal where it is
both_equal : (r s : Ordering) → ordering_then r s ≡ Equal → (r ≡ Equal) × (s ≡ Equal)
both_equal Less s e = cc
both_equal Equal s e = (refl, e)
both_equal Greater s e = cc

same_number : (a b : ℕ) → nat_cmp a b ≡ Equal → a ≡ b
same_number a b e = search (arith, rules, e)

pub stamp_same : (a b : Stamp) → stamp_cmp a b ≡ Equal → a ≡ b
stamp_same a b e =
    let parts = both_equal (nat_cmp a.time b.time) (nat_cmp a.node b.node) e in
    λ i. record { time = same_number a.time b.time parts.0 i; node = same_number a.node b.node parts.1 i }

pub mark_same : (a b : Mark) → mark_cmp a b ≡ Equal → a ≡ b
mark_same a b e =
    let parts = both_equal (stamp_cmp a.stamp b.stamp) (nat_cmp a.part b.part) e in
    λ i. record { stamp = stamp_same a.stamp b.stamp parts.0 i; part = same_number a.part b.part parts.1 i }

pub stamps_ordered : IsStrictOrder stamp_cmp
stamps_ordered = record { total = stamp_total; same = stamp_same }

pub marks_ordered : IsStrictOrder mark_cmp
marks_ordered = record { total = mark_total; same = mark_same }

not_less : (a b : ℕ) → b ≤ a → is_lt (nat_cmp a b) ≡ false
not_less a b le =
    ⊎_elim
    (λ (lt : b < a). ap is_lt (sym (nat_cmp_is a b Greater lt)))
    (λ (ge : a ≤ b). ap is_lt (sym (nat_cmp_is a b Equal (omega (arith, le, ge)))))
    (cases_lt b a)

then_not : (r s : Ordering) → is_lt r ≡ false → is_lt s ≡ false → is_lt (ordering_then r s) ≡ false
then_not Less s h k = h
then_not Equal s h k = k
then_not Greater s h k = refl

less_true : (a b : ℕ) → a < b → nat_lt a b ≡ true
less_true a b h = search (arith, rules)

less_false : (a b : ℕ) → b ≤ a → nat_lt a b ≡ false
less_false a b h = search (arith, rules)

pub times_end : TimesEnd
times_end time mark is =
    ⊎_elim
    (λ (lt : time < mark.stamp.time).
    ap (λ r. is_lt (ordering_then (ordering_then r (nat_cmp (2 ^ 32 - 1) mark.stamp.node)) (nat_cmp (2 ^ 32 - 1) mark.part))) (sym (nat_cmp_is time mark.stamp.time Less lt))
    ∙ sym (less_true time mark.stamp.time lt))
    (λ (le : mark.stamp.time ≤ time).
    then_not (ordering_then (nat_cmp time mark.stamp.time) (nat_cmp (2 ^ 32 - 1) mark.stamp.node)) (nat_cmp (2 ^ 32 - 1) mark.part)
    (then_not (nat_cmp time mark.stamp.time) (nat_cmp (2 ^ 32 - 1) mark.stamp.node) (not_less time mark.stamp.time le) (not_less (2 ^ 32 - 1) mark.stamp.node (omega (arith, is.node))))
    (not_less (2 ^ 32 - 1) mark.part (omega (arith, is.part)))
    ∙ sym (less_false time mark.stamp.time le))
    (cases_lt time mark.stamp.time)
