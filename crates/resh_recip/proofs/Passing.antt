-- What a recipient may have come to: by its own moves, and what it was told on the way.
use Rattle.std.specs.Prelude.{◌≡◌, ◌≤◌, true, false, refl}
use Rattle.std.proofs.Common.{rules, ap, sym, ◌∙◌, subst, inl, inr}
use Rattle.resh_progress.specs.Kinds.{Kind, ToPrepare, ToBlock, ToRelease}
use Rattle.resh_progress.specs.Tellings.{told_too}
use Rattle.resh_progress.specs.declared.told.Told.{Told}
use Rattle.resh_recip.specs.Phases.{cloned_phase, consistent_phase, place_of}
use Rattle.resh_recip.specs.States.{State, cloned, consistent, may, told_until, IsReached}
use Rattle.resh_recip.specs.declared.phase.RecipientPhase.{RecipientPhase}
use Rattle.resh_recip.specs.declared.phase.RecipientPhase.TheVariants.{AwaitingFetchTime, Cloning, Applying, StrictConsistency, Done}

until_cloned : (phase : RecipientPhase) → told_until phase ≡ told_until (cloned_phase phase)
until_cloned AwaitingFetchTime = refl
until_cloned Cloning = refl
until_cloned Applying = refl
until_cloned StrictConsistency = refl
until_cloned Done = refl

until_consistent : (phase : RecipientPhase) → told_until phase ≡ told_until (consistent_phase phase)
until_consistent AwaitingFetchTime = refl
until_consistent Cloning = refl
until_consistent Applying = refl
until_consistent StrictConsistency = refl
until_consistent Done = refl

pub reached_cloned : (state : State) → IsReached state → IsReached (cloned state)
reached_cloned state r =
    elim r as (λ _. IsReached (cloned state)) [
      | inl e ↦ inl (e ∙ until_cloned state.phase)
      | inr released ↦ inr (record { phase = released.phase; before = released.before; done = ap cloned_phase released.done; told = released.told })
    ]

pub reached_consistent : (state : State) → IsReached state → IsReached (consistent state)
reached_consistent state r =
    elim r as (λ _. IsReached (consistent state)) [
      | inl e ↦ inl (e ∙ until_consistent state.phase)
      | inr released ↦ inr (record { phase = released.phase; before = released.before; done = ap consistent_phase released.done; told = released.told })
    ]

-- where a test of what was told holds on the way and after a release, it holds of what a recipient may have come to
told_alike : (P : RecipientPhase → Told → Type 0) → ((phase : RecipientPhase) → P phase (told_until phase)) → ((phase : RecipientPhase) → P Done (told_too (told_until phase) ToRelease)) → (state : State) → IsReached state → P state.phase state.told
told_alike P on_the_way at_end state r =
    elim r as (λ _. P state.phase state.told) [
      | inl e ↦ (let Q : Told → Type 0 = λ told. P state.phase told in subst Q (sym e) (on_the_way state.phase))
      | inr released ↦ (let Q : Told → Type 0 = λ told. P Done told in
          let R : RecipientPhase → Type 0 = λ phase. P phase state.told in
          subst R (sym released.done) (subst Q (sym released.told) (at_end released.phase)))
    ]

abbrev MayNot : Kind → RecipientPhase → Told → Type 0
MayNot kind phase told = may (record { phase = phase; told = told }) kind ≡ false

prepare_going : (phase : RecipientPhase) → MayNot ToPrepare phase (told_until phase)
prepare_going AwaitingFetchTime = refl
prepare_going Cloning = refl
prepare_going Applying = refl
prepare_going StrictConsistency = refl
prepare_going Done = refl

prepare_released : (phase : RecipientPhase) → MayNot ToPrepare Done (told_too (told_until phase) ToRelease)
prepare_released AwaitingFetchTime = refl
prepare_released Cloning = refl
prepare_released Applying = refl
prepare_released StrictConsistency = refl
prepare_released Done = refl

block_going : (phase : RecipientPhase) → MayNot ToBlock phase (told_until phase)
block_going AwaitingFetchTime = refl
block_going Cloning = refl
block_going Applying = refl
block_going StrictConsistency = refl
block_going Done = refl

block_released : (phase : RecipientPhase) → MayNot ToBlock Done (told_too (told_until phase) ToRelease)
block_released AwaitingFetchTime = refl
block_released Cloning = refl
block_released Applying = refl
block_released StrictConsistency = refl
block_released Done = refl

pub prepare_never : (state : State) → IsReached state → may state ToPrepare ≡ false
prepare_never = told_alike (MayNot ToPrepare) prepare_going prepare_released

pub block_never : (state : State) → IsReached state → may state ToBlock ≡ false
block_never = told_alike (MayNot ToBlock) block_going block_released

abbrev Starts : RecipientPhase → Told → Type 0
Starts phase told = told.donate ≡ true → place_of Cloning ≤ place_of phase

starts_going : (phase : RecipientPhase) → Starts phase (told_until phase)
starts_going AwaitingFetchTime t = search (rules, t)
starts_going Cloning t = search rules
starts_going Applying t = search rules
starts_going StrictConsistency t = search rules
starts_going Done t = search rules

pub started_where_donated : (state : State) → IsReached state → state.told.donate ≡ true → place_of Cloning ≤ place_of state.phase
started_where_donated = told_alike Starts starts_going (λ phase t. starts_going Done refl)

abbrev Ends : RecipientPhase → Told → Type 0
Ends phase told = told.install ≡ true → phase ≡ Done

ends_going : (phase : RecipientPhase) → Ends phase (told_until phase)
ends_going Done t = refl
ends_going phase t = search (rules, t)

pub done_where_installed : (state : State) → IsReached state → state.told.install ≡ true → state.phase ≡ Done
done_where_installed = told_alike Ends ends_going (λ phase t. refl)

abbrev EndsReleased : RecipientPhase → Told → Type 0
EndsReleased phase told = told.release ≡ true → phase ≡ Done

released_going : (phase : RecipientPhase) → EndsReleased phase (told_until phase)
released_going Done t = refl
released_going phase t = search (rules, t)

pub done_where_released : (state : State) → IsReached state → state.told.release ≡ true → state.phase ≡ Done
done_where_released = told_alike EndsReleased released_going (λ phase t. refl)
