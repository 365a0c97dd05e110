-- What the top call promises, in words of its own: each follows from what an outcome is.
use Rattle.std.specs.Prelude.{◌≡◌, ◌≢◌, ℕ, ◌<◌, ◌≤◌, ◌⊎◌, true, false, length, List, [], Some, None, String}
use Rattle.std.specs.declared.alloc.Global.{Global}
use Rattle.resh_io.specs.Causes.{Rose}
use Rattle.resh_coord.specs.declared.cause.End.{End}
use Rattle.resh_coord.specs.declared.cause.End.TheVariants.{Aborted}
use Rattle.resh_coord.specs.declared.cause.Cause.TheVariants.{NoMemory}
use Rattle.resh_setup.specs.declared.setup.Setup.{Setup}
use Rattle.resh_setup.specs.declared.fault.SetupFault.{SetupFault}
use Rattle.resh_bag.specs.Placement.{HasNoClash}
use Rattle.resh_model.specs.Licence.{LicensesNone, crash_steps}
use Rattle.resh_model.specs.MarkLaws.{bag_at_mark, is_failure, AcceptsNone}
use Rattle.resh_model.specs.Runs.{IsMarked}
use Rattle.resh_config.specs.ClusterFile.{IsSetup, IsRefused}
use Rattle.resh_report.specs.Checked.{checked_text}
use Rattle.resh_report.specs.Refusals.{refusal_text}
use Rattle.resh_gen.specs.Generated.{generated}
use Rattle.resh_gen.specs.SetupText.{setup_text}
use Rattle.resh_run.specs.Seen.{Seen}
use Rattle.resh_run.specs.Top.{Asks, IsClusterRunOf, IsPlacement, IsRunOf, IsSent, IsSummaryOf, said_in, is_fed}
use Rattle.resh_run.specs.Top.{is_running, is_served, needs_cluster, input_limit, too_long_text}
use Rattle.resh_run.specs.Words.{asked_by}
use Rattle.resh_run.specs.declared.words.Asked.TheVariants.{Plain, Check, Generate}
use Rattle.resh_run.specs.declared.plain.Outcome.{Outcome}

-- the words ask for a run, and the source has the bytes of this setup
pub record IsAskedFor (words : List (String Global)) (source : Seen) (setup : Setup) : Type 0 where
  pub plain : Asks words Plain
  pub bytes : List ℕ
  pub told : source.old.bytes ≡ Some bytes
  pub is : IsSetup bytes setup

-- the source has these bytes, no more than the limit, and it counts no fault in the call
pub record Feeds (source : Seen) (bytes : List ℕ) : Type 0 where
  pub told : source.old.bytes ≡ Some bytes
  pub short : length bytes ≤ input_limit
  pub calm : ¬ Rose source.old.faults source.new.faults

-- so fed with the bytes of this setup
pub record FeedsSetup (source : Seen) (setup : Setup) : Type 0 where
  pub bytes : List ℕ
  pub fed : Feeds source bytes
  pub is : IsSetup bytes setup

-- a run of a setup that needs no cluster is asked for
pub record IsAskedToPlace (words : List (String Global)) (source : Seen) (setup : Setup) : Type 0 where
  pub asked : IsAskedFor words source setup
  pub needs : needs_cluster setup ≡ false

-- The headline: where a run of a setup is asked for and the status meant is 0 or 1, what is said is a run of the setup,
-- and what is written is all of that text, or its first bytes with status 5.
abbrev pub Headline : List (String Global) → Seen → Seen → Outcome → Type 0
Headline words source sink outcome = (setup : Setup) → IsAskedFor words source setup → outcome.meant ≤ 1
    → (text : List ℕ) × IsRunOf setup (said_in outcome text) × IsSent sink text outcome

-- Of a setup that needs no cluster, its documents are placed.
abbrev pub RunsPlaced : List (String Global) → Seen → Seen → Outcome → Type 0
RunsPlaced words source sink outcome = (setup : Setup) → IsAskedToPlace words source setup → outcome.meant ≤ 1
    → (text : List ℕ) × IsPlacement setup (said_in outcome text) × IsSent sink text outcome

-- Another one has run on a cluster, by the table of events.
abbrev pub RunsCluster : List (String Global) → Seen → Seen → Outcome → Type 0
RunsCluster words source sink outcome = (setup : Setup) → IsAskedFor words source setup → needs_cluster setup ≡ true
    → outcome.meant ≤ 1 → (text : List ℕ) × IsClusterRunOf setup (said_in outcome text) × IsSent sink text outcome

-- a text that is said with a status beside which nothing ran, unless memory is wanted
abbrev pub Says : ℕ → Seen → List ℕ → Outcome → Type 0
Says status sink text outcome = (outcome.meant ≡ 6) ⊎ ((outcome.meant ≡ status) × IsSent sink text outcome)

-- Status 2 is meant exactly where the words' reading is no row of the table, or `run`. Want of memory may come in its
-- place, but not where there are no words.
pub record TellsUsage (words : List (String Global)) (outcome : Outcome) : Type 0 where
  pub only : outcome.meant ≡ 2 → is_served (asked_by words) ≡ false
  pub always : is_served (asked_by words) ≡ false → (outcome.meant ≡ 2) ⊎ (outcome.meant ≡ 6)
  pub no_words : words ≡ [] → outcome.meant ≡ 2

-- bytes that are no setup are refused with their first fault
abbrev pub RefusesFaults : List (String Global) → Seen → Seen → Outcome → Type 0
RefusesFaults words source sink outcome = (bytes : List ℕ) (fault : SetupFault) → is_fed (asked_by words) ≡ true
    → Feeds source bytes → IsRefused bytes fault → Says 3 sink (refusal_text fault) outcome

-- input past the limit is refused
abbrev pub RefusesLong : List (String Global) → Seen → Seen → Outcome → Type 0
RefusesLong words source sink outcome = (bytes : List ℕ) → is_fed (asked_by words) ≡ true
    → source.old.bytes ≡ Some bytes → input_limit < length bytes → ¬ Rose source.old.faults source.new.faults
    → Says 3 sink too_long_text outcome

-- a setup that is only read is counted
abbrev pub Checks : List (String Global) → Seen → Seen → Outcome → Type 0
Checks words source sink outcome = (setup : Setup) → Asks words Check → FeedsSetup source setup
    → Says 0 sink (checked_text setup) outcome

-- a generated setup is printed
abbrev pub Prints : List (String Global) → Seen → Outcome → Type 0
Prints words sink outcome = (number : ℕ) → Asks words (Generate number true)
    → Says 0 sink (setup_text (generated number)) outcome

-- a generated setup runs, and is told in short
abbrev pub Sums : List (String Global) → Seen → Outcome → Type 0
Sums words sink outcome = (number : ℕ) → Asks words (Generate number false)
    → (outcome.meant ≡ 6) ⊎ ((text : List ℕ) × IsSummaryOf number (said_in outcome text) × IsSent sink text outcome)

-- any setup runs to its end, unless memory is wanted
abbrev pub Completes : List (String Global) → Seen → Outcome → Type 0
Completes words source outcome = (setup : Setup) → Asks words Plain → FeedsSetup source setup
    → (outcome.meant ≤ 1) ⊎ (outcome.meant ≡ 6)

-- memory was wanted, before a run or in it
abbrev pub IsWanting : Outcome → Type 0
IsWanting outcome = (outcome.status ≡ 6) ⊎ (outcome.end ≡ Some (Aborted NoMemory))

-- It commits, and all is written, where besides no clash stands at the mark, no abort is accepted, no failure is
-- licensed, and the sink counts no fault, unless memory is wanted.
abbrev pub Commits : List (String Global) → Seen → Seen → Outcome → Type 0
Commits words source sink outcome = (setup : Setup) → Asks words Plain → FeedsSetup source setup
    → HasNoClash setup.new_map (bag_at_mark setup outcome.order) → AcceptsNone setup outcome.order
    → LicensesNone setup.plan (crash_steps setup) → ¬ Rose sink.old.faults sink.new.faults
    → (outcome.status ≡ 0) ⊎ IsWanting outcome

-- a run that needs no cluster is the mark that the opening collection asks for, and no failure
abbrev pub RunsOneMark : List (String Global) → Seen → Outcome → Type 0
RunsOneMark words source outcome = (setup : Setup) (ended : End) → IsAskedToPlace words source setup
    → outcome.end ≡ Some ended → (is_failure ended ≡ false) × IsMarked setup outcome.order ended

-- where no run is asked for, and beside another status than 0 and 1, nothing ran
abbrev pub RunsNothing : List (String Global) → Outcome → Type 0
RunsNothing words outcome = (is_running (asked_by words) ≡ false) ⊎ (1 < outcome.meant)
    → (outcome.order ≡ []) × (outcome.end ≡ None) × (outcome.trace ≡ None)

-- the status is the one that is meant, or 5, which comes only where the sink counts a fault
abbrev pub FailsToWrite : Seen → Outcome → Type 0
FailsToWrite sink outcome = outcome.status ≢ outcome.meant → (outcome.status ≡ 5) × Rose sink.old.faults sink.new.faults
