-- What holds of every coordinator.
use Rattle.std.specs.Prelude.{◌≡◌, ◌≤◌, ℕ, true, false, Option, Some}
use Rattle.resh_value.specs.declared.value.Value.{Value}
use Rattle.resh_coord.specs.Control.{Control, advanced, begun, is_true_at, left, may_advance, unless_decided, with_crash, with_report, with_told, IsControl}
use Rattle.resh_coord.specs.declared.cause.Cause.{Cause}
use Rattle.resh_coord.specs.declared.cause.End.{End}
use Rattle.resh_coord.specs.declared.phase.Phase.{Phase}
use Rattle.resh_coord.specs.declared.phase.Phase.TheVariants.{Initializing, PreparingToDonate, Cloning, Applying, BlockingWrites, Committing, Aborting, Done}

-- how many phases come before; committing and aborting stand side by side
abbrev pub place_of : Phase → ℕ
place_of Initializing = 0
place_of PreparingToDonate = 1
place_of Cloning = 2
place_of Applying = 3
place_of BlockingWrites = 4
place_of Committing = 5
place_of Aborting = 5
place_of Done = 6

-- what is decided once stays
pub record DecidesOnce : Type 0 where
  pub begin : (c : Control) (end : End) → IsControl c → c.decision ≡ Some end → (begun c).decision ≡ Some end
  pub told : (c : Control) (shard : ℕ) → (with_told shard c).decision ≡ c.decision
  pub reported : (c : Control) (shard : ℕ) (clash : Option Value) → (with_report shard clash c).decision ≡ c.decision
  pub advance :
      (c : Control) (time : ℕ) (end : End) → IsControl c → c.decision ≡ Some end → (advanced time c).decision ≡ Some end
  pub fail : (c : Control) (cause : Cause) (end : End) → c.decision ≡ Some end → (unless_decided cause c) ≡ c

-- a phase that is left leaves nobody told and nobody reported
pub record EachPhaseBeginsAnew : Type 0 where
  pub told : (c : Control) (time shard : ℕ) → may_advance c ≡ true → is_true_at (advanced time c).told shard ≡ false
  pub reported :
      (c : Control) (time shard : ℕ) → may_advance c ≡ true → is_true_at (advanced time c).reported shard ≡ false

-- phases never go back
pub record PhasesNeverGoBack : Type 0 where
  pub begin : (c : Control) → place_of c.phase ≤ place_of (begun c).phase
  pub advance : (c : Control) (time : ℕ) → place_of c.phase ≤ place_of (advanced time c).phase
  pub fail : (c : Control) (cause : Cause) → IsControl c → place_of c.phase ≤ place_of (unless_decided cause c).phase
