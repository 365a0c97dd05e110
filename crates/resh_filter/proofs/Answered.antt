-- The fault that is answered is seen from further out as the walk's is.
use Rattle.std.proofs.Common.{◌≡◌, ℕ, List, refl}
use Rattle.resh_value.specs.Walk.{under}
use Rattle.resh_value.specs.declared.fault.ValueFaultKind.TheVariants as value
use Rattle.resh_value.specs.declared.walk_fault.WalkFault.{WalkFault}
use Rattle.resh_value.specs.declared.walk_fault.WalkFault.TheVariants.{At, NoMemory}
use Rattle.resh_filter.specs.Filters.{fault_of, under as under_fault}
use Rattle.resh_filter.specs.declared.fault.FilterFaultKind.{FilterFaultKind}
use Rattle.resh_filter.specs.declared.fault.FilterFaultKind.TheVariants.{DottedName, Value}

pub answered_under : (step : List ℕ) (f : WalkFault FilterFaultKind) → under_fault step (fault_of f) ≡ fault_of (under step f)
answered_under step (At path DottedName) = refl
answered_under step (At path (Value value.NotWhole)) = refl
answered_under step (At path (Value value.BadTag)) = refl
answered_under step (At path (Value value.TooDeep)) = refl
answered_under step (At path (Value value.DollarName)) = refl
answered_under step (At path (Value value.NotDocument)) = refl
answered_under step NoMemory = refl
