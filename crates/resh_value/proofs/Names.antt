-- The laws of the order of names.
use Rattle.std.proofs.Common.{◌≡◌, ◌≢◌, ℕ, List, false, refl, ap, ◌∙◌}
use Rattle.std.specs.declared.cmp.Ordering.{Ordering}
use Rattle.std.specs.declared.cmp.Ordering.TheVariants.{Less, Equal, Greater}
use Rattle.std.specs.Cmp.{IsTotalOrder}
use Rattle.std.specs.Ordering.{is_eq, ordering_reverse}
use Rattle.std.proofs.lemmas.Cmp.{nat_list_cmp_total, tied_itself}
use Rattle.std.proofs.lemmas.Map.Lookups.{exact_bytes}
use Rattle.resh_value.specs.Names.{name_cmp}

pub name_cmp_total : IsTotalOrder name_cmp
name_cmp_total = nat_list_cmp_total

-- names that compare equal are the same name
pub same_from_equal : (x y : List ℕ) → name_cmp x y ≡ Equal → x ≡ y
same_from_equal x y h = exact_bytes x y h

pub name_cmp-itself : (x : List ℕ) → name_cmp x x ≡ Equal
name_cmp-itself x = tied_itself name_cmp_total x

-- a name is above another that is below it
pub greater_from_less : (x y : List ℕ) → name_cmp x y ≡ Less → name_cmp y x ≡ Greater
greater_from_less x y h = name_cmp_total.antisymm y x ∙ ap ordering_reverse h

pub less_from_greater : (x y : List ℕ) → name_cmp x y ≡ Greater → name_cmp y x ≡ Less
less_from_greater x y h = name_cmp_total.antisymm y x ∙ ap ordering_reverse h

-- each answer of a comparison
pub by_order : {P : Type 0} (r : Ordering) → (r ≡ Less → P) → (r ≡ Equal → P) → (r ≡ Greater → P) → P
by_order Less a b c = a refl
by_order Equal a b c = b refl
by_order Greater a b c = c refl

-- different names don't compare equal
pub apart_from_unlike : (x y : List ℕ) → x ≢ y → is_eq (name_cmp x y) ≡ false
apart_from_unlike x y n = by_order (name_cmp x y) (λ h. ap is_eq h) (λ h. absurd (n (same_from_equal x y h))) (λ h. ap is_eq h)
