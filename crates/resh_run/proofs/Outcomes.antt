-- What bytes are has one answer.
use Rattle.std.proofs.Common.{◌≡◌, ◌≢◌, ℕ, List, Result, Ok, Err, Some, None, refl, sym, ap, ◌∙◌, subst}
use Rattle.std.specs.declared.option.Option.{Option}
use Rattle.serde_json.specs.Data.{Data}
use Rattle.resh_setup.specs.declared.setup.Setup.{Setup}
use Rattle.resh_setup.specs.declared.fault.SetupFault.{SetupFault}
use Rattle.resh_value.specs.Outcome.{in_err}
use Rattle.resh_config.specs.Faults.{fault_of}
use Rattle.resh_config.specs.ClusterFile.{IsOutcome, read, no_reading, IsSetup, IsRefused, setup_in}
use Rattle.resh_io.specs.Reading.{GivesAll}

pub one_outcome : (bytes : List ℕ) (r s : Result Setup SetupFault) → IsOutcome bytes r → IsOutcome bytes s → r ≡ s
one_outcome bytes r s (read d is e) (read d' is' e') =
    let same : Some d ≡ Some d' = sym is.1 ∙ is'.1 in
    let same_data : d ≡ d' = cc in
    sym e ∙ ap (λ x. in_err fault_of (setup_in x)) same_data ∙ e'
one_outcome bytes r s (read d is e) (no_reading none e') = let clash : Some d ≡ None = sym is.1 ∙ none is.0 in cc
one_outcome bytes r s (no_reading none e) (read d is e') = let clash : Some d ≡ None = sym is.1 ∙ none is.0 in cc
one_outcome bytes r s (no_reading none e) (no_reading none' e') = e ∙ sym e'

pub one_setup : (bytes : List ℕ) (s t : Setup) → IsSetup bytes s → IsSetup bytes t → s ≡ t
one_setup bytes s t h k = let same : ◌≡◌ {A = Result Setup SetupFault} (Ok s) (Ok t) = one_outcome bytes (Ok s) (Ok t) h k in cc

pub one_fault : (bytes : List ℕ) (f g : SetupFault) → IsRefused bytes f → IsRefused bytes g → f ≡ g
one_fault bytes f g h k = let same : ◌≡◌ {A = Result Setup SetupFault} (Err f) (Err g) = one_outcome bytes (Err f) (Err g) h k in cc

pub not_both : (bytes : List ℕ) (s : Setup) (f : SetupFault) → IsSetup bytes s → IsRefused bytes f → ⊥
not_both bytes s f h k = let same : ◌≡◌ {A = Result Setup SetupFault} (Ok s) (Err f) = one_outcome bytes (Ok s) (Err f) h k in cc

-- a source that tells its bytes gave these
pub given_is : (bytes given : List ℕ) (new : Option (List ℕ)) → GivesAll (Some bytes) new given → given ≡ bytes
given_is bytes given None h = absurd h
given_is bytes given (Some rest) h = h.0

pub given_told : (old new : Option (List ℕ)) (bytes given : List ℕ) → old ≡ Some bytes → GivesAll old new given → given ≡ bytes
given_told old new bytes given told h = given_is bytes given new (subst (λ o. GivesAll o new given) told h)
