-- The phases of a recipient.
use Rattle.std.specs.Prelude.{ℕ, Bool, nat_lt, Option, Some, None}
use Rattle.resh_progress.specs.Kinds.{Kind, ToDonate, ToInstall, ToRelease}
use Rattle.resh_recip.specs.declared.phase.RecipientPhase.{RecipientPhase}
use Rattle.resh_recip.specs.declared.phase.RecipientPhase.TheVariants.{AwaitingFetchTime, Cloning, Applying, StrictConsistency, Done}

-- the phase to which a message moves, where it moves
abbrev pub next_phase : RecipientPhase → Kind → Option RecipientPhase
next_phase AwaitingFetchTime ToDonate = Some Cloning
next_phase StrictConsistency ToInstall = Some Done
next_phase Done ToRelease = None
next_phase phase ToRelease = Some Done
next_phase phase kind = None

-- how many phases come before
abbrev pub place_of : RecipientPhase → ℕ
place_of AwaitingFetchTime = 0
place_of Cloning = 1
place_of Applying = 2
place_of StrictConsistency = 3
place_of Done = 4

-- the second phase comes after the first
abbrev pub has_passed : RecipientPhase → RecipientPhase → Bool
has_passed phase later = nat_lt (place_of phase) (place_of later)

-- once the clone is made
abbrev pub cloned_phase : RecipientPhase → RecipientPhase
cloned_phase Cloning = Applying
cloned_phase phase = phase

-- once all that was logged is applied
abbrev pub consistent_phase : RecipientPhase → RecipientPhase
consistent_phase Applying = StrictConsistency
consistent_phase phase = phase
