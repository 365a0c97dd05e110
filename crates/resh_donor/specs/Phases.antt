-- The phases of a donor.
use Rattle.std.specs.Prelude.{ℕ, Option, Some, None}
use Rattle.resh_progress.specs.Kinds.{Kind, ToPrepare, ToDonate, ToBlock, ToInstall, ToRelease}
use Rattle.resh_donor.specs.declared.phase.DonorPhase.{DonorPhase}
use Rattle.resh_donor.specs.declared.phase.DonorPhase.TheVariants.{Unused, PreparingToDonate, Donating, BlockingWrites, Done}

-- the phase to which a message moves, where it moves
abbrev pub next_phase : DonorPhase → Kind → Option DonorPhase
next_phase Unused ToPrepare = Some PreparingToDonate
next_phase PreparingToDonate ToDonate = Some Donating
next_phase Donating ToBlock = Some BlockingWrites
next_phase BlockingWrites ToInstall = Some Done
next_phase Done ToRelease = None
next_phase phase ToRelease = Some Done
next_phase phase kind = None

-- the phase to which a message leads, from wherever it may first come
abbrev pub leads_to : Kind → DonorPhase
leads_to ToPrepare = PreparingToDonate
leads_to ToDonate = Donating
leads_to ToBlock = BlockingWrites
leads_to ToInstall = Done
leads_to ToRelease = Done

-- how many phases come before
abbrev pub place_of : DonorPhase → ℕ
place_of Unused = 0
place_of PreparingToDonate = 1
place_of Donating = 2
place_of BlockingWrites = 3
place_of Done = 4
