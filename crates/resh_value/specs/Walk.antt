-- Where a walk through a JSON value ends early: what it finds there, and the way to it.
use Rattle.std.specs.Prelude.{ℕ, List, [], ◌++◌, Result, Err}
use Rattle.resh_value.specs.Outcome.{in_err}
use Rattle.resh_value.specs.declared.walk_fault.WalkFault.{WalkFault}
use Rattle.resh_value.specs.declared.walk_fault.WalkFault.TheVariants.{At, NoMemory}

abbrev pub Walked : Type 0 → Type 0 → Type 0
Walked K A = Result A (WalkFault K)

-- the walk ends where it stands
abbrev pub ends : {K A : Type 0} → K → Walked K A
ends kind = Err (At [] kind)

-- a fault as it is seen from further out, with this step before its path
abbrev pub under : {K : Type 0} → List ℕ → WalkFault K → WalkFault K
under step (At path kind) = At (step ++ path) kind
under step NoMemory = NoMemory

abbrev pub at_step : {K A : Type 0} → List ℕ → Walked K A → Walked K A
at_step step r = in_err (under step) r

-- a fault of this kind in what is read as a part of another
abbrev pub as_kind : {K L : Type 0} → (K → L) → WalkFault K → WalkFault L
as_kind f (At path kind) = At path (f kind)
as_kind f NoMemory = NoMemory
