-- A recipient's states: its phase, and what it was told.
use Rattle.std.specs.Prelude.{Bool, nat_le}
use Rattle.resh_progress.specs.Kinds.{Kind, ToDonate, ToInstall}
use Rattle.resh_progress.specs.Machines as machine
use Rattle.resh_progress.specs.Tellings.{nothing, told_too}
use Rattle.resh_progress.specs.declared.told.Told.{Told}
use Rattle.resh_recip.specs.Phases.{cloned_phase, consistent_phase, next_phase, place_of}
use Rattle.resh_recip.specs.declared.phase.RecipientPhase.{RecipientPhase}
use Rattle.resh_recip.specs.declared.phase.RecipientPhase.TheVariants.{AwaitingFetchTime, Cloning, Applying, StrictConsistency, Done}

abbrev pub State : Type 0
State = machine.State RecipientPhase

abbrev pub at_first : State
at_first = machine.at_first AwaitingFetchTime

-- a message may come that came before, or that moves the phase
abbrev pub may : State → Kind → Bool
may = machine.may next_phase

-- a message that came before changes nothing
abbrev pub after : State → Kind → State
after = machine.after next_phase

-- the fetch time came, so that a clone may be made
abbrev pub may_be_cloned : State → Bool
may_be_cloned state = nat_le (place_of Cloning) (place_of state.phase)

abbrev pub cloned : State → State
cloned state = record { phase = cloned_phase state.phase; told = state.told }

-- the clone is made, so that what was logged may be applied
abbrev pub may_be_consistent : State → Bool
may_be_consistent state = nat_le (place_of Applying) (place_of state.phase)

abbrev pub consistent : State → State
consistent state = record { phase = consistent_phase state.phase; told = state.told }

-- what was told on the way to a phase, where no release came
abbrev pub told_until : RecipientPhase → Told
told_until AwaitingFetchTime = nothing
told_until Cloning = told_too nothing ToDonate
told_until Applying = told_too nothing ToDonate
told_until StrictConsistency = told_too nothing ToDonate
told_until Done = told_too (told_too nothing ToDonate) ToInstall

-- a release came in a phase before the last, and nothing later did
abbrev pub IsReleased : State → Type 0
IsReleased = machine.IsReleased Done told_until

-- what a recipient may have come to
abbrev pub IsReached : State → Type 0
IsReached = machine.IsReached Done told_until
