-- Places are in a total order, and only equal places tie.
use Rattle.std.proofs.Common.{ℕ}
use Rattle.std.proofs.lemmas.Map.Lookups.{exact_pairs}
use Rattle.std.specs.Cmp.{IsTotalOrder, on_total, then_total, nat_cmp_total}
use Rattle.std.specs.FinMap.{IsAntisymmetric, nat_cmp-IsAntisymmetric}
use Rattle.std.specs.Ordering.{nat_cmp}
use Rattle.resh_value.specs.Order.{compare_of}
use Rattle.resh_value.specs.OrderLaws.{compare_total, compare_same}
use Rattle.resh_value.specs.declared.value.Value.{Value}
use Rattle.resh_bag.specs.Bag.{place_cmp}

pub place_total : IsTotalOrder place_cmp
place_total = then_total (on_total (λ (p : Value × ℕ). p.0) compare_total)
    (on_total (λ (p : Value × ℕ). p.1) nat_cmp_total)

pub place_same : IsAntisymmetric place_cmp
place_same = exact_pairs compare_of nat_cmp compare_same nat_cmp-IsAntisymmetric
