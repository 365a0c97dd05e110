-- What is to be said before its text is made, case by case.
use Rattle.std.specs.Prelude.{◌≡◌, ◌≢◌, ℕ, ◌+◌, Bool, true, false, List, [], String}
use Rattle.std.specs.declared.alloc.Global.{Global}
use Rattle.resh_io.specs.Causes.{Rose}
use Rattle.resh_io.specs.Reading.{GivesFirst}
use Rattle.resh_coord.specs.declared.cause.End.{End}
use Rattle.resh_setup.specs.declared.setup.Setup.{Setup}
use Rattle.resh_setup.specs.declared.turn.Turn.{Turn}
use Rattle.resh_setup.specs.declared.fault.SetupFault.{SetupFault}
use Rattle.resh_setup.specs.declared.fault.SetupFault.TheVariants as InSetup
use Rattle.resh_model.specs.MarkLaws.{is_failure}
use Rattle.resh_model.specs.Orders.{IsLawful}
use Rattle.resh_model.specs.Runs.{page_of}
use Rattle.resh_config.specs.ClusterFile.{IsSetup, IsRefused}
use Rattle.resh_report.specs.Checked.{checked_text}
use Rattle.resh_report.specs.Refusals.{refusal_text}
use Rattle.resh_gen.specs.Generated.{generated}
use Rattle.resh_gen.specs.SetupText.{setup_text}
use Rattle.resh_run.specs.Seen.{Seen}
use Rattle.resh_run.specs.Answer.{said}
use Rattle.resh_run.specs.Top.{Asks, IsSummaryOf, IsWhole, RunsTo, input_limit, is_served}
use Rattle.resh_run.specs.Words.{asked_by}
use Rattle.resh_run.specs.declared.decision.Purpose.{Purpose}
use Rattle.resh_run.specs.declared.decision.Purpose.TheVariants as for
use Rattle.resh_run.specs.declared.decision.Said.{Said}
use Rattle.resh_run.specs.declared.decision.Said.TheVariants.{Usage, ReadFault, TooLong, NoMemory, Refused, Ran}
use Rattle.resh_run.specs.declared.decision.Said.TheVariants.{Checked, Printed}
use Rattle.resh_run.specs.declared.words.Asked.TheVariants.{Plain, Check, Generate}

-- the page of a setup's run that needs no cluster, and that nothing made fail
pub record IsPage (setup : Setup) (order : List Turn) (end : End) (page : List ℕ) : Type 0 where
  pub lawful : IsLawful setup order end
  pub well : is_failure end ≡ false
  pub text : page ≡ page_of setup order end

-- what a setup that is to run comes to
abbrev pub SetupSays : Setup → Said → Type 0
SetupSays setup NoMemory = Unit {0}
SetupSays setup (Ran order end page trace) = RunsTo setup (said (Ran order end page trace))
SetupSays setup _ = ⊥

-- what a setup that is only read comes to
abbrev pub CheckSays : Setup → Said → Type 0
CheckSays setup NoMemory = Unit {0}
CheckSays setup (Checked text) = text.items ≡ checked_text setup
CheckSays setup _ = ⊥

-- what a fault comes to
abbrev pub FaultSays : SetupFault → Said → Type 0
FaultSays fault NoMemory = Unit {0}
FaultSays fault (Refused text) = (fault ≢ InSetup.NoMemory) × (text.items ≡ refusal_text fault)
FaultSays fault _ = ⊥

-- what bytes come to
abbrev pub BytesSay : Purpose → List ℕ → Said → Type 0
BytesSay purpose bytes NoMemory = Unit {0}
BytesSay purpose bytes (Refused text) =
    (fault : SetupFault) × IsRefused bytes fault × (text.items ≡ refusal_text fault)
BytesSay purpose bytes (Ran order end page trace) =
    (purpose ≡ for.ToRun) × ((setup : Setup) × IsSetup bytes setup × RunsTo setup (said (Ran order end page trace)))
BytesSay purpose bytes (Checked text) =
    (purpose ≡ for.ToCheck) × ((setup : Setup) × IsSetup bytes setup × (text.items ≡ checked_text setup))
BytesSay purpose bytes _ = ⊥

-- the bytes that were left come to this
pub record ReadSays (purpose : Purpose) (source : Seen) (said : Said) : Type 0 where
  pub bytes : List ℕ
  pub whole : IsWhole source bytes
  pub says : BytesSay purpose bytes said

-- what the source comes to
abbrev pub FileSays : Purpose → Seen → Said → Type 0
FileSays purpose source Usage = ⊥
FileSays purpose source ReadFault = Rose source.old.faults source.new.faults
FileSays purpose source TooLong = GivesFirst source.old.bytes source.new.bytes (input_limit + 1)
FileSays purpose source NoMemory = Unit {0}
FileSays purpose source (Refused text) = ReadSays purpose source (Refused text)
FileSays purpose source (Ran order end page trace) = ReadSays purpose source (Ran order end page trace)
FileSays purpose source (Checked text) = ReadSays purpose source (Checked text)
FileSays purpose source (Printed text) = ⊥

-- what a generated setup comes to where it is printed
abbrev pub PrintSays : ℕ → Said → Type 0
PrintSays number NoMemory = Unit {0}
PrintSays number (Printed text) = text.items ≡ setup_text (generated number)
PrintSays number _ = ⊥

-- and where it runs
abbrev pub SumSays : ℕ → Said → Type 0
SumSays number NoMemory = Unit {0}
SumSays number (Ran order end page trace) = IsSummaryOf number (said (Ran order end page trace))
SumSays number _ = ⊥

abbrev pub NumberSays : ℕ → Bool → Said → Type 0
NumberSays number true = PrintSays number
NumberSays number false = SumSays number

-- what the top call has to say, and from what cause
pub data IsSaid (words : List (String Global)) (source : Seen) (said : Said) : Type 0 where
  wrong : is_served (asked_by words) ≡ false → source.new ≡ source.old → said ≡ Usage → IsSaid words source said
  wanting : words ≢ [] → source.new ≡ source.old → said ≡ NoMemory → IsSaid words source said
  ran : Asks words Plain → FileSays for.ToRun source said → IsSaid words source said
  checked : Asks words Check → FileSays for.ToCheck source said → IsSaid words source said
  numbered : (number : ℕ) (print : Bool) → Asks words (Generate number print) → source.new ≡ source.old
      → NumberSays number print said → IsSaid words source said
