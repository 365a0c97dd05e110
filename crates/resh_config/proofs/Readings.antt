-- What is read of the bytes is what they are.
use Rattle.std.proofs.Common.{◌≡◌, ◌≢◌, ◌∙◌, ℕ, List, Ok, Err, sym, ap}
use Rattle.serde_json.specs.Data.{Data}
use Rattle.resh_value.specs.Outcome.{in_err}
use Rattle.resh_value.specs.declared.walk_fault.WalkFault.{WalkFault}
use Rattle.resh_value.specs.declared.walk_fault.WalkFault.TheVariants.{NoMemory as NoRoom}
use Rattle.resh_setup.specs.Validity.{IsValid}
use Rattle.resh_setup.specs.declared.setup.Setup.{Setup}
use Rattle.resh_setup.specs.declared.fault.SetupFault.{SetupFault}
use Rattle.resh_setup.specs.declared.fault.SetupFault.TheVariants.{NoMemory}
use Rattle.resh_config.specs.declared.faults.FaultKind.{FaultKind}
use Rattle.resh_config.specs.Faults.{fault_of}
use Rattle.resh_config.specs.ClusterFile.{IsReading, read, no_reading, IsSetup, IsRefused, setup_in}
use Rattle.resh_config.proofs.Outcomes.{Ok-in_err}
use Rattle.resh_config.proofs.SortedMembers.{read_tidy}
use Rattle.resh_config.proofs.SetupLemmas.{setup_valid}

-- a setup that was read
pub read_setup_out : (bytes : List ℕ) (d : Data) (setup : Setup) → IsReading bytes d → setup_in d ≡ Ok setup → IsSetup bytes setup
read_setup_out bytes d setup is e = read d is (ap (in_err fault_of) e)

-- a fault that was found, and answered
pub refused_out : (bytes : List ℕ) (d : Data) (found : WalkFault FaultKind) (fault : SetupFault) → IsReading bytes d
    → (found ≢ NoRoom → setup_in d ≡ Err found) → (fault ≢ NoMemory → fault ≡ fault_of found) → (found ≡ NoRoom → fault ≡ NoMemory)
    → fault ≢ NoMemory → IsRefused bytes fault
refused_out bytes d found fault is there answered none real =
    read d is (ap (in_err fault_of) (there (λ e. real (none e))) ∙ ap Err (sym (answered real)))

-- bytes that are a setup give a valid one
pub IsSetup-valid : (bytes : List ℕ) (setup : Setup) → IsSetup bytes setup → IsValid setup
IsSetup-valid bytes setup (read d is e) = setup_valid d setup (read_tidy bytes d is.1) (Ok-in_err fault_of (setup_in d) setup e)
IsSetup-valid bytes setup (no_reading none e) = cc

pub valid_out : (bytes : List ℕ) (d : Data) (setup : Setup) → IsReading bytes d → setup_in d ≡ Ok setup → IsValid setup
valid_out bytes d setup is e = setup_valid d setup (read_tidy bytes d is.1) e
