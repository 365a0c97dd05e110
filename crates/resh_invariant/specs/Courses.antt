-- What the coordinator has come to, what it has told a donor by then, and how a donor's shard serves.
use Rattle.std.specs.Prelude.{◌≡◌, ◌≢◌, ℕ, Bool, true, false, cond, Option, Some, None}
use Rattle.resh_coord.specs.Control.{Control}
use Rattle.resh_coord.specs.declared.cause.Cause.{Cause}
use Rattle.resh_coord.specs.declared.cause.End.{End}
use Rattle.resh_coord.specs.declared.cause.End.TheVariants.{Committed, Aborted}
use Rattle.resh_coord.specs.declared.phase.Phase.{Phase}
use Rattle.resh_coord.specs.declared.phase.Phase.TheVariants as phase
use Rattle.resh_donor.specs.States as donor
use Rattle.resh_donor.specs.declared.phase.DonorPhase.{DonorPhase}
use Rattle.resh_donor.specs.declared.phase.DonorPhase.TheVariants.{Unused, PreparingToDonate, Donating, BlockingWrites, Done}
use Rattle.resh_model.specs.Orders.{Fate, undecided, ended}
use Rattle.resh_progress.specs.Kinds.{ToPrepare, ToInstall}
use Rattle.resh_progress.specs.Machines.{going}
use Rattle.resh_progress.specs.Tellings.{has}
use Rattle.resh_shard.specs.Shards.{Shard}
use Rattle.resh_shard.specs.declared.act.Which.{Which}
use Rattle.resh_shard.specs.declared.act.Which.TheVariants.{Old, New}

-- the phase, the decision and the fetch time
pub record Course : Type 0 where
  pub phase : Phase
  pub decision : Option End
  pub fetch_time : ℕ

abbrev pub course_of : Control → Course
course_of c = record { phase = c.phase; decision = c.decision; fetch_time = c.fetch_time }

abbrev pub is_committed : Option End → Bool
is_committed (Some Committed) = true
is_committed (Some (Aborted cause)) = false
is_committed None = false

-- what is decided is what the order decided, and the phase goes with it
abbrev pub IsStage : Phase → Option End → Fate → Type 0
IsStage phase.Committing decision fate = (decision ≡ Some Committed) × (fate ≡ ended Committed)
IsStage phase.Aborting decision fate =
    (cause : Cause) × (decision ≡ Some (Aborted cause)) × (fate ≡ ended (Aborted cause))
IsStage phase.Done decision fate = (end : End) × (decision ≡ Some end) × (fate ≡ ended end)
IsStage other decision fate = (decision ≡ None) × (fate ≡ undecided)

-- the phases before the fetch time
abbrev pub is_early : Phase → Bool
is_early phase.Initializing = true
is_early phase.PreparingToDonate = true
is_early other = false

-- a donor was told all on the way to a phase, and no release
abbrev pub IsGoing : DonorPhase → donor.State → Type 0
IsGoing to state = state ≡ going donor.told_until to

-- while the operation is dropped: a donor that was told so is released, another goes on
abbrev pub IsDropped : Bool → donor.State → Type 0
IsDropped true state = donor.IsReleased state
IsDropped false state = (to : DonorPhase) × (to ≢ Done) × IsGoing to state

abbrev pub IsEnded : Option End → donor.State → Type 0
IsEnded None state = ⊥
IsEnded (Some Committed) state = IsGoing Done state
IsEnded (Some (Aborted cause)) state = donor.IsReleased state

-- what a donor has come to in a phase in which it was told, or wasn't
abbrev pub IsDonorIn : Phase → Option End → Bool → donor.State → Type 0
IsDonorIn phase.Initializing decision told state = IsGoing Unused state
IsDonorIn phase.PreparingToDonate decision told state = IsGoing (cond told PreparingToDonate Unused) state
IsDonorIn phase.Cloning decision told state = IsGoing (cond told Donating PreparingToDonate) state
IsDonorIn phase.Applying decision told state = IsGoing Donating state
IsDonorIn phase.BlockingWrites decision told state = IsGoing (cond told BlockingWrites Donating) state
IsDonorIn phase.Committing decision told state = IsGoing (cond told Done BlockingWrites) state
IsDonorIn phase.Aborting decision told state = IsDropped told state
IsDonorIn phase.Done decision told state = IsEnded decision state

-- it wasn't told to donate, and may still be
abbrev pub is_unused : DonorPhase → Bool
is_unused Unused = true
is_unused PreparingToDonate = true
is_unused to = false

abbrev pub is_blocking : DonorPhase → Bool
is_blocking BlockingWrites = true
is_blocking to = false

abbrev pub is_over : DonorPhase → Bool
is_over Done = true
is_over to = false

abbrev pub which_by : Bool → Which
which_by true = New
which_by false = Old

-- its shard names recipients once it was told to prepare, its writes are blocked until the end once it was told to
-- block them, and the new map is in force where it was told to install
pub record Serves (state : donor.State) (shard : Shard) : Type 0 where
  pub names : shard.names ≡ has state.told ToPrepare
  pub blocked : shard.blocked ≡ is_blocking state.phase
  pub which : shard.which ≡ which_by (has state.told ToInstall)
