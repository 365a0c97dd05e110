-- The fault that is answered is seen from further out as the walk's is.
use Rattle.std.proofs.Common.{◌≡◌, ℕ, List, refl}
use Rattle.resh_value.specs.Walk.{under}
use Rattle.resh_value.specs.declared.fault.ValueFaultKind.TheVariants as value
use Rattle.resh_value.specs.declared.walk_fault.WalkFault.{WalkFault}
use Rattle.resh_value.specs.declared.walk_fault.WalkFault.TheVariants.{At, NoMemory}
use Rattle.resh_ops.specs.Reading.{fault_of, under as under_fault}
use Rattle.resh_ops.specs.declared.faults.UpdateFaultKind.{UpdateFaultKind}
use Rattle.resh_ops.specs.declared.faults.UpdateFaultKind.TheVariants.{UnknownOperator, Conflict, IdPath, BadOperand, Value}

pub answered_under : (step : List ℕ) (f : WalkFault UpdateFaultKind) → under_fault step (fault_of f) ≡ fault_of (under step f)
answered_under step (At place (UnknownOperator name)) = refl
answered_under step (At place (Conflict path)) = refl
answered_under step (At place IdPath) = refl
answered_under step (At place (BadOperand path)) = refl
answered_under step (At place (Value value.NotWhole)) = refl
answered_under step (At place (Value value.BadTag)) = refl
answered_under step (At place (Value value.TooDeep)) = refl
answered_under step (At place (Value value.DollarName)) = refl
answered_under step (At place (Value value.NotDocument)) = refl
answered_under step NoMemory = refl
