-- A donor's states: its phase, and what it was told.
use Rattle.std.specs.Prelude.{Bool}
use Rattle.resh_progress.specs.Kinds.{Kind, ToPrepare, ToDonate, ToBlock, ToInstall}
use Rattle.resh_progress.specs.Machines as machine
use Rattle.resh_progress.specs.Tellings.{nothing, told_too}
use Rattle.resh_progress.specs.declared.told.Told.{Told}
use Rattle.resh_donor.specs.Phases.{next_phase}
use Rattle.resh_donor.specs.declared.phase.DonorPhase.{DonorPhase}
use Rattle.resh_donor.specs.declared.phase.DonorPhase.TheVariants.{Unused, PreparingToDonate, Donating, BlockingWrites, Done}

abbrev pub State : Type 0
State = machine.State DonorPhase

abbrev pub at_first : State
at_first = machine.at_first Unused

-- a message may come that came before, or that moves the phase
abbrev pub may : State → Kind → Bool
may = machine.may next_phase

-- a message that came before changes nothing
abbrev pub after : State → Kind → State
after = machine.after next_phase

-- what was told on the way to a phase, where no release came
abbrev pub told_until : DonorPhase → Told
told_until Unused = nothing
told_until PreparingToDonate = told_too nothing ToPrepare
told_until Donating = told_too (told_too nothing ToPrepare) ToDonate
told_until BlockingWrites = told_too (told_too (told_too nothing ToPrepare) ToDonate) ToBlock
told_until Done = told_too (told_too (told_too (told_too nothing ToPrepare) ToDonate) ToBlock) ToInstall

-- a release came in a phase before the last, and nothing later did
abbrev pub IsReleased : State → Type 0
IsReleased = machine.IsReleased Done told_until

-- what a donor may have come to
abbrev pub IsReached : State → Type 0
IsReached = machine.IsReached Done told_until
