-- What a walk through a cluster file finds, and the fault that is answered.
use Rattle.std.specs.Prelude.{ℕ, List, [], ◌++◌}
use Rattle.resh_value.specs.FromJson.{fault_at as value_fault_at}
use Rattle.resh_value.specs.Walk.{Walked}
use Rattle.resh_value.specs.declared.walk_fault.WalkFault.{WalkFault}
use Rattle.resh_value.specs.declared.walk_fault.WalkFault.TheVariants.{At, NoMemory as NoRoom}
use Rattle.resh_filter.specs.Filters.{fault_at as filter_fault_at}
use Rattle.resh_ops.specs.Reading.{fault_at as update_fault_at}
use Rattle.resh_ops.specs.declared.faults.UpdateFaultKind.{UpdateFaultKind}
use Rattle.resh_setup.specs.declared.fault.SetupFault.{SetupFault}
use Rattle.resh_setup.specs.declared.fault.SetupFault.TheVariants as fault
use Rattle.resh_config.specs.declared.faults.FaultKind.{FaultKind}
use Rattle.resh_config.specs.declared.faults.FaultKind.TheVariants.{Missing, WrongKind, UnknownName, OverLimit, NoId, SameId, Value, Filter, Update, Chunks}

abbrev pub Read : Type 0 → Type 0
Read A = Walked FaultKind A

-- the fault that is answered: an update's place is told beside the place in it
abbrev pub fault_at : FaultKind → List ℕ → SetupFault
fault_at Missing path = fault.Missing path
fault_at WrongKind path = fault.WrongKind path
fault_at UnknownName path = fault.UnknownName path
fault_at (OverLimit limit) path = fault.OverLimit path limit
fault_at NoId path = fault.NoId path
fault_at (SameId row) path = fault.SameId row
fault_at (Value found) path = fault.Value (value_fault_at found path)
fault_at (Filter found) path = fault.Filter (filter_fault_at found path)
fault_at (Update inside found) path = fault.Update path (update_fault_at found (path ++ inside))
fault_at (Chunks found) path = fault.Chunks path found

abbrev pub fault_of : WalkFault FaultKind → SetupFault
fault_of (At path found) = fault_at found path
fault_of NoRoom = fault.NoMemory

-- what an update's walk found, at the update's own place
abbrev pub in_update : WalkFault UpdateFaultKind → WalkFault FaultKind
in_update (At inside found) = At [] (Update inside found)
in_update NoRoom = NoRoom
