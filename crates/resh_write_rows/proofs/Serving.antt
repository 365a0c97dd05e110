-- What a donor was told by what it has come to, and where its writes aren't blocked.
use Rattle.std.proofs.Common.{◌≡◌, inl, inr, Bool, true, false, cond, not, Option, Some, None, refl, sym, ap, ◌∙◌}
use Rattle.resh_coord.specs.declared.cause.End.{End}
use Rattle.resh_coord.specs.declared.cause.End.TheVariants.{Aborted}
use Rattle.resh_coord.specs.declared.phase.Phase.{Phase}
use Rattle.resh_coord.specs.declared.phase.Phase.TheVariants as phase
use Rattle.resh_donor.specs.States as donor
use Rattle.resh_donor.specs.declared.phase.DonorPhase.{DonorPhase}
use Rattle.resh_donor.specs.declared.phase.DonorPhase.TheVariants.{Unused, PreparingToDonate, Donating, BlockingWrites, Done}
use Rattle.resh_model.specs.Orders.{Fate}
use Rattle.resh_progress.specs.Kinds.{ToBlock, ToDonate, ToInstall, ToPrepare}
use Rattle.resh_progress.specs.Tellings.{has}
use Rattle.resh_progress.specs.declared.told.Told.{Told}
use Rattle.resh_invariant.specs.Courses.{IsDonorIn, IsGoing, IsStage, is_blocking, is_early, is_over}
use Rattle.resh_invariant.specs.Keeping.{is_moving}
use Rattle.resh_invariant.proofs.Going.{GoesOrEnds}
use Rattle.resh_invariant.proofs.Ones.{never}

-- on the way to a phase each is told after the one before it
donate_first : (to : DonorPhase) → has (donor.told_until to) ToDonate ≡ false → has (donor.told_until to) ToBlock ≡ false
donate_first Unused off = refl
donate_first PreparingToDonate off = refl
donate_first Donating off = refl
donate_first BlockingWrites off = never off
donate_first Done off = never off

block_first : (to : DonorPhase) → has (donor.told_until to) ToBlock ≡ false → has (donor.told_until to) ToInstall ≡ false
block_first Unused off = refl
block_first PreparingToDonate off = refl
block_first Donating off = refl
block_first BlockingWrites off = refl
block_first Done off = never off

-- and one that isn't over is blocked from the time on at which it was told to
not_blocking : (to : DonorPhase) → is_over to ≡ false → is_blocking to ≡ false → has (donor.told_until to) ToBlock ≡ false
not_blocking Unused going free = refl
not_blocking PreparingToDonate going free = refl
not_blocking Donating going free = refl
not_blocking BlockingWrites going free = never free
not_blocking Done going free = never going

pub undonated : (state : donor.State) → GoesOrEnds state → has state.told ToDonate ≡ false → has state.told ToBlock ≡ false
undonated state (inl (to, is)) off =
    ap (λ (x : donor.State). has x.told ToBlock) is ∙ donate_first to (sym (ap (λ (x : donor.State). has x.told ToDonate) is) ∙ off)
undonated state (inr is) off =
    ap (λ (t : Told). has t ToBlock) is.told ∙ donate_first is.phase (sym (ap (λ (t : Told). has t ToDonate) is.told) ∙ off)

pub unblocked : (state : donor.State) → GoesOrEnds state → has state.told ToBlock ≡ false → has state.told ToInstall ≡ false
unblocked state (inl (to, is)) off =
    ap (λ (x : donor.State). has x.told ToInstall) is ∙ block_first to (sym (ap (λ (x : donor.State). has x.told ToBlock) is) ∙ off)
unblocked state (inr is) off =
    ap (λ (t : Told). has t ToInstall) is.told ∙ block_first is.phase (sym (ap (λ (t : Told). has t ToBlock) is.told) ∙ off)

pub still_free : (state : donor.State) → GoesOrEnds state → is_over state.phase ≡ false → is_blocking state.phase ≡ false → has state.told ToBlock ≡ false
still_free state (inl (to, is)) going free =
    ap (λ (x : donor.State). has x.told ToBlock) is
    ∙ not_blocking to (sym (ap (λ (x : donor.State). is_over x.phase) is) ∙ going) (sym (ap (λ (x : donor.State). is_blocking x.phase) is) ∙ free)
still_free state (inr is) going free = never (sym (ap is_over is.done) ∙ going)

some_none : {X : Type 0} (x : X) → Some x ≡ None → ⊥
some_none x e = cc

-- after the early phases each was told to prepare, where nothing is decided
prepared_in : (to : DonorPhase) (state : donor.State) → IsGoing to state → has (donor.told_until to) ToPrepare ≡ true → has state.told ToPrepare ≡ true
prepared_in to state is on = ap (λ (x : donor.State). has x.told ToPrepare) is ∙ on

either : (a b : DonorPhase) → has (donor.told_until a) ToPrepare ≡ true → has (donor.told_until b) ToPrepare ≡ true → (t : Bool)
    → has (donor.told_until (cond t a b)) ToPrepare ≡ true
either a b one other true = one
either a b one other false = other

pub late_prepared : (p : Phase) (decision : Option End) (fate : Fate) (told : Bool) (state : donor.State) → IsStage p decision fate
    → IsDonorIn p decision told state → decision ≡ None → is_early p ≡ false → has state.told ToPrepare ≡ true
late_prepared phase.Initializing decision fate told state stage is none late = never late
late_prepared phase.PreparingToDonate decision fate told state stage is none late = never late
late_prepared phase.Cloning decision fate told state stage is none late =
    prepared_in (cond told Donating PreparingToDonate) state is (either Donating PreparingToDonate refl refl told)
late_prepared phase.Applying decision fate told state stage is none late = prepared_in Donating state is refl
late_prepared phase.BlockingWrites decision fate told state stage is none late =
    prepared_in (cond told BlockingWrites Donating) state is (either BlockingWrites Donating refl refl told)
late_prepared phase.Committing decision fate told state stage is none late =
    prepared_in (cond told Done BlockingWrites) state is (either Done BlockingWrites refl refl told)
late_prepared phase.Aborting decision fate told state stage is none late = absurd (some_none (Aborted stage.0) (sym stage.1 ∙ none))
late_prepared phase.Done decision fate told state stage is none late = absurd (some_none stage.0 (sym stage.1 ∙ none))

-- a shard that has yet to install is blocked
pub not_moving : (p : Phase) (decision : Option End) (told : Bool) (state : donor.State) → IsDonorIn p decision told state → is_blocking state.phase ≡ false
    → is_moving p (has state.told ToInstall) ≡ false
not_moving phase.Initializing decision told state is free = refl
not_moving phase.PreparingToDonate decision told state is free = refl
not_moving phase.Cloning decision told state is free = refl
not_moving phase.Applying decision told state is free = refl
not_moving phase.BlockingWrites decision told state is free = refl
not_moving phase.Committing decision told state is free = by told is
  where
    by : (t : Bool) → IsGoing (cond t Done BlockingWrites) state → not (has state.told ToInstall) ≡ false
    by true is = ap (λ (x : donor.State). not (has x.told ToInstall)) is
    by false is = never (sym (ap (λ (x : donor.State). is_blocking x.phase) is) ∙ free)
not_moving phase.Aborting decision told state is free = refl
not_moving phase.Done decision told state is free = refl
