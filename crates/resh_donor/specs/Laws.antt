-- What holds of every donor.
use Rattle.std.specs.Prelude.{◌≡◌, ◌≢◌, ◌≤◌, true, ◌⊎◌}
use Rattle.resh_progress.specs.Kinds.{Kind, ToInstall, ToRelease}
use Rattle.resh_progress.specs.Machines as machine
use Rattle.resh_progress.specs.Tellings.{has}
use Rattle.resh_donor.specs.Phases.{leads_to, next_phase, place_of}
use Rattle.resh_donor.specs.States.{State, after, told_until, IsReached}
use Rattle.resh_donor.specs.declared.phase.DonorPhase.TheVariants.{Done}

-- after a message one of its kind changes nothing
abbrev pub ARepeatChangesNothing : Type 0
ARepeatChangesNothing = machine.ARepeatChangesNothing next_phase

-- a message leaves what was told of other kinds
abbrev pub OtherKindsAreKept : Type 0
OtherKindsAreKept = machine.OtherKindsAreKept next_phase

-- the last phase is reached only by an install or a release
abbrev pub OnlyEndsEnd : Type 0
OnlyEndsEnd =
    (state : State) (kind : Kind) → state.phase ≢ Done → (after state kind).phase ≡ Done
    → (kind ≡ ToInstall) ⊎ (kind ≡ ToRelease)

-- in the last phase no message moves
abbrev pub TheEndIsKept : Type 0
TheEndIsKept = machine.TheEndIsKept next_phase Done

abbrev pub PhasesNeverGoBack : Type 0
PhasesNeverGoBack = machine.PhasesNeverGoBack next_phase place_of

-- where a message came, the phase to which it leads is reached
abbrev pub WhatWasToldIsPassed : Type 0
WhatWasToldIsPassed =
    (state : State) (kind : Kind) → IsReached state → has state.told kind ≡ true
    → place_of (leads_to kind) ≤ place_of state.phase

-- a message that may come leads on to what a donor may come to
abbrev pub ReachesOn : Type 0
ReachesOn = machine.ReachesOn next_phase Done told_until
