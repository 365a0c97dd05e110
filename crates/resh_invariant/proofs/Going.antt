-- What a donor was told, by its phase.
use Rattle.std.proofs.Common.{◌≡◌, ◌⊎◌, inl, inr, Bool, true, false, cond, Option, Some, None, refl, sym, ap, ◌∙◌}
use Rattle.resh_coord.specs.declared.cause.End.{End}
use Rattle.resh_coord.specs.declared.cause.End.TheVariants.{Committed, Aborted}
use Rattle.resh_coord.specs.declared.phase.Phase.{Phase}
use Rattle.resh_coord.specs.declared.phase.Phase.TheVariants as phase
use Rattle.resh_donor.specs.States as donor
use Rattle.resh_donor.specs.declared.phase.DonorPhase.{DonorPhase}
use Rattle.resh_donor.specs.declared.phase.DonorPhase.TheVariants.{Unused, PreparingToDonate, Donating, BlockingWrites, Done}
use Rattle.resh_events.specs.rows.Clone.{donates}
use Rattle.resh_progress.specs.Kinds.{ToDonate}
use Rattle.resh_progress.specs.Tellings.{has}
use Rattle.resh_invariant.specs.Courses.{IsDonorIn, IsDropped, IsEnded, IsGoing, is_over}

never : {A : Type 0} → true ≡ false → A
never e = cc

-- a donor goes on, or was released
abbrev pub GoesOrEnds : donor.State → Type 0
GoesOrEnds state = ((to : DonorPhase) × IsGoing to state) ⊎ donor.IsReleased state

dropped : (told : Bool) (state : donor.State) → IsDropped told state → GoesOrEnds state
dropped true state is = inr is
dropped false state is = inl (is.0, is.2)

ended : (decision : Option End) (state : donor.State) → IsEnded decision state → GoesOrEnds state
ended None state is = absurd is
ended (Some Committed) state is = inl (Done, is)
ended (Some (Aborted cause)) state is = inr is

pub goes_or_ends : (p : Phase) (decision : Option End) (told : Bool) (state : donor.State) → IsDonorIn p decision told state → GoesOrEnds state
goes_or_ends phase.Initializing decision told state is = inl (Unused, is)
goes_or_ends phase.PreparingToDonate decision told state is = inl (cond told PreparingToDonate Unused, is)
goes_or_ends phase.Cloning decision told state is = inl (cond told Donating PreparingToDonate, is)
goes_or_ends phase.Applying decision told state is = inl (Donating, is)
goes_or_ends phase.BlockingWrites decision told state is = inl (cond told BlockingWrites Donating, is)
goes_or_ends phase.Committing decision told state is = inl (cond told Done BlockingWrites, is)
goes_or_ends phase.Aborting decision told state is = dropped told state is
goes_or_ends phase.Done decision told state is = ended decision state is

-- who donates was told to, and isn't at the end
going_told : (to : DonorPhase) → donates to ≡ true → has (donor.told_until to) ToDonate ≡ true
going_told Unused e = never (sym e)
going_told PreparingToDonate e = never (sym e)
going_told Donating e = refl
going_told BlockingWrites e = refl
going_told Done e = never (sym e)

pub donating_told : (state : donor.State) → GoesOrEnds state → donates state.phase ≡ true → has state.told ToDonate ≡ true
donating_told state (inl (to, is)) on =
    ap (λ (s : donor.State). has s.told ToDonate) is ∙ going_told to (sym (ap (λ (s : donor.State). donates s.phase) is) ∙ on)
donating_told state (inr is) on = never (sym on ∙ ap donates is.done)

pub donating_not_over : (to : DonorPhase) → donates to ≡ true → is_over to ≡ false
donating_not_over Unused e = refl
donating_not_over PreparingToDonate e = refl
donating_not_over Donating e = refl
donating_not_over BlockingWrites e = refl
donating_not_over Done e = never (sym e)
