-- Bounds are in a total order where values are.
use Rattle.std.proofs.Common.{◌≡◌, ℕ, List, [], refl, subst}
use Rattle.std.specs.Cmp.{IsTotalOrder, nat_cmp_total, on_total, total, partial_order_from_total, then_po, then_agrees}
use Rattle.std.specs.Cmp.Lexicographic.{lists_total}
use Rattle.std.specs.Ordering.{nat_cmp, ordering_then, on}
use Rattle.std.specs.declared.cmp.Ordering.{Ordering}
use Rattle.resh_value.specs.Order.{compare_of}
use Rattle.resh_value.specs.declared.value.Value.{Value}
use Rattle.resh_chunks.specs.Bounds.{key_cmp, bound_cmp}
use Rattle.resh_chunks.specs.declared.bound.Bound.{Bound}
use Rattle.resh_chunks.specs.declared.bound.Bound.TheVariants.{Min, At, Max}

abbrev place_of : Bound → ℕ
place_of Min = 0
place_of (At key) = 1
place_of Max = 2

abbrev values_of : Bound → List Value
values_of Min = []
values_of (At key) = key
values_of Max = []

-- by place, and at one place by values
abbrev by_parts : Bound → Bound → Ordering
by_parts a b = ordering_then (nat_cmp (place_of a) (place_of b)) (key_cmp (values_of a) (values_of b))

by_parts-is : (a b : Bound) → by_parts a b ≡ bound_cmp a b
by_parts-is Min Min = refl
by_parts-is Min (At k) = refl
by_parts-is Min Max = refl
by_parts-is (At j) Min = refl
by_parts-is (At j) (At k) = refl
by_parts-is (At j) Max = refl
by_parts-is Max Min = refl
by_parts-is Max (At k) = refl
by_parts-is Max Max = refl

pub bound_total : IsTotalOrder compare_of → IsTotalOrder bound_cmp
bound_total o =
    let places : IsTotalOrder (on place_of nat_cmp) = on_total place_of nat_cmp_total in
    let values : IsTotalOrder (on values_of key_cmp) = on_total values_of (lists_total o) in
    let parts : IsTotalOrder by_parts = total (then_po (partial_order_from_total places) (partial_order_from_total values)) (then_agrees (λ a b. refl) (λ a b. refl)) in
    subst IsTotalOrder (λ i a b. by_parts-is a b i) parts
