-- What holds of every recipient.
use Rattle.std.specs.Prelude.{◌≡◌, ◌≢◌, ◌≤◌, ◌↔◌, true, false, ◌⊎◌}
use Rattle.resh_progress.specs.Kinds.{Kind, ToPrepare, ToDonate, ToBlock, ToInstall, ToRelease}
use Rattle.resh_progress.specs.Machines as machine
use Rattle.resh_progress.specs.Tellings.{has}
use Rattle.resh_recip.specs.Phases.{next_phase, place_of}
use Rattle.resh_recip.specs.States.{State, after, cloned, consistent, may, may_be_cloned, may_be_consistent, told_until, IsReached}
use Rattle.resh_recip.specs.declared.phase.RecipientPhase.TheVariants.{Applying, Cloning, Done}

-- after a message one of its kind changes nothing
abbrev pub ARepeatChangesNothing : Type 0
ARepeatChangesNothing = machine.ARepeatChangesNothing next_phase

-- a message leaves what was told of other kinds
abbrev pub OtherKindsAreKept : Type 0
OtherKindsAreKept = machine.OtherKindsAreKept next_phase

-- a recipient's own moves are made once
abbrev pub OwnMovesAreMadeOnce : Type 0
OwnMovesAreMadeOnce =
    (state : State) → (cloned (cloned state) ≡ cloned state) × (consistent (consistent state) ≡ consistent state)

-- a recipient's own moves may be made from a phase on
pub record OwnMovesMayBeMade : Type 0 where
  pub clone : (state : State) → (may_be_cloned state ≡ true) ↔ (place_of Cloning ≤ place_of state.phase)
  pub consistency : (state : State) → (may_be_consistent state ≡ true) ↔ (place_of Applying ≤ place_of state.phase)

-- the last phase is reached only by an install or a release
pub record OnlyEndsEnd : Type 0 where
  pub by_message :
      (state : State) (kind : Kind) → state.phase ≢ Done → (after state kind).phase ≡ Done
      → (kind ≡ ToInstall) ⊎ (kind ≡ ToRelease)
  pub by_clone : (state : State) → state.phase ≢ Done → (cloned state).phase ≢ Done
  pub by_consistency : (state : State) → state.phase ≢ Done → (consistent state).phase ≢ Done

-- in the last phase nothing moves
pub record TheEndIsKept : Type 0 where
  pub by_message : machine.TheEndIsKept next_phase Done
  pub by_clone : (state : State) → state.phase ≡ Done → cloned state ≡ state
  pub by_consistency : (state : State) → state.phase ≡ Done → consistent state ≡ state

pub record PhasesNeverGoBack : Type 0 where
  pub by_message : machine.PhasesNeverGoBack next_phase place_of
  pub by_clone : (state : State) → place_of state.phase ≤ place_of (cloned state).phase
  pub by_consistency : (state : State) → place_of state.phase ≤ place_of (consistent state).phase

-- a recipient is told to donate, to install and to release alone
abbrev pub OnlyThreeAreTold : Type 0
OnlyThreeAreTold = (state : State) → IsReached state → (may state ToPrepare ≡ false) × (may state ToBlock ≡ false)

-- where a donation came it clones or has cloned, and an install or a release ended it
pub record WhatWasToldIsPassed : Type 0 where
  pub donate :
      (state : State) → IsReached state → has state.told ToDonate ≡ true → place_of Cloning ≤ place_of state.phase
  pub install : (state : State) → IsReached state → has state.told ToInstall ≡ true → state.phase ≡ Done
  pub release : (state : State) → IsReached state → has state.told ToRelease ≡ true → state.phase ≡ Done

-- what may come leads on to what a recipient may come to
pub record ReachesOn : Type 0 where
  pub by_message : machine.ReachesOn next_phase Done told_until
  pub by_clone : (state : State) → IsReached state → IsReached (cloned state)
  pub by_consistency : (state : State) → IsReached state → IsReached (consistent state)
