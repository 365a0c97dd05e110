-- Where a message came, the phase to which it leads is reached.
use Rattle.std.specs.Prelude.{◌≡◌, ◌≤◌, true}
use Rattle.std.proofs.Common.{rules, sym, subst, inl, inr}
use Rattle.resh_progress.specs.Kinds.{Kind, ToPrepare, ToDonate, ToBlock, ToInstall, ToRelease}
use Rattle.resh_progress.specs.Tellings.{has}
use Rattle.resh_progress.specs.declared.told.Told.{Told}
use Rattle.resh_donor.specs.Phases.{leads_to, place_of}
use Rattle.resh_donor.specs.States.{State, told_until, IsReached}
use Rattle.resh_donor.specs.declared.phase.DonorPhase.{DonorPhase}
use Rattle.resh_donor.specs.declared.phase.DonorPhase.TheVariants.{Unused, PreparingToDonate, Donating, BlockingWrites, Done}

passed_going : (phase : DonorPhase) (kind : Kind) → has (told_until phase) kind ≡ true → place_of (leads_to kind) ≤ place_of phase
passed_going Unused kind t = search (rules, t)
passed_going PreparingToDonate kind t = search (rules, t)
passed_going Donating kind t = search (rules, t)
passed_going BlockingWrites kind t = search (rules, t)
passed_going Done kind t = search (rules, t)

passed_at_end : (kind : Kind) → place_of (leads_to kind) ≤ place_of Done
passed_at_end ToPrepare = search rules
passed_at_end ToDonate = search rules
passed_at_end ToBlock = search rules
passed_at_end ToInstall = search rules
passed_at_end ToRelease = search rules

pub passed_where_told : (state : State) (kind : Kind) → IsReached state → has state.told kind ≡ true → place_of (leads_to kind) ≤ place_of state.phase
passed_where_told state kind r t =
    elim r as (λ _. place_of (leads_to kind) ≤ place_of state.phase) [
      | inl e ↦ (let P : Told → Type 0 = λ told. has told kind ≡ true → place_of (leads_to kind) ≤ place_of state.phase in
          subst P (sym e) (passed_going state.phase kind) t)
      | inr released ↦ (let P : DonorPhase → Type 0 = λ phase. place_of (leads_to kind) ≤ place_of phase in
          subst P (sym released.done) (passed_at_end kind))
    ]
