-- What the top call answers: what it means to say, and what of it was written.
use Rattle.std.specs.Prelude.{◌≡◌, ◌≢◌, ℕ, ◌+◌, ◌<◌, ◌≤◌, Bool, true, false, not, ◌||◌, nat_lt, List, [], length}
use Rattle.std.specs.Prelude.{take, codes, Option, Some, None, String}
use Rattle.std.specs.declared.alloc.Global.{Global}
use Rattle.std.specs.Io.KnownBytes.{Appends}
use Rattle.resh_io.specs.Causes.{Rose}
use Rattle.resh_io.specs.Reading.{GivesAll, GivesFirst}
use Rattle.resh_coord.specs.declared.cause.End.{End}
use Rattle.resh_coord.specs.declared.cause.End.TheVariants.{Committed, Aborted}
use Rattle.resh_setup.specs.declared.setup.Setup.{Setup}
use Rattle.resh_setup.specs.declared.trace.Made.{Made}
use Rattle.resh_setup.specs.declared.turn.Turn.{Turn}
use Rattle.resh_events.specs.Steps.{Line}
use Rattle.resh_core.specs.Cores.{CoreOf}
use Rattle.resh_setup.specs.declared.fault.SetupFault.{SetupFault}
use Rattle.resh_model.specs.Licence.{HasLicence, crash_steps}
use Rattle.resh_model.specs.MarkLaws.{is_failure}
use Rattle.resh_model.specs.Orders.{IsLawful}
use Rattle.resh_model.specs.Runs.{page_of}
use Rattle.resh_config.specs.ClusterFile.{IsSetup, IsRefused}
use Rattle.resh_report.specs.Checked.{checked_text}
use Rattle.resh_report.specs.Lines.{line}
use Rattle.resh_report.specs.Refusals.{refusal_text}
use Rattle.resh_gen.specs.Generated.{generated}
use Rattle.resh_gen.specs.SetupText.{setup_text}
use Rattle.resh_run.specs.Cluster.{HasRun, HasRunGenerated, core_page, core_summary, lines_from, order_summary}
use Rattle.resh_run.specs.Cluster.{page_with_lines_of}
use Rattle.resh_run.specs.Seen.{Seen}
use Rattle.resh_run.specs.Words.{asked_by}
use Rattle.resh_run.specs.declared.words.Asked.{Asked}
use Rattle.resh_run.specs.declared.words.Asked.TheVariants.{Plain, Check, Run, Generate}
use Rattle.resh_run.specs.declared.plain.Outcome.{Outcome}

-- the words ask for this
abbrev pub Asks : List (String Global) → Asked → Type 0
Asks words asked = asked_by words ≡ Some asked

-- what is asked is done here: `run` isn't, nor what is no row of the table
abbrev pub is_served : Option Asked → Bool
is_served (Some Plain) = true
is_served (Some Check) = true
is_served (Some (Generate number print)) = true
is_served (Some (Run workers)) = false
is_served None = false

-- the source is read
abbrev pub is_fed : Option Asked → Bool
is_fed (Some Plain) = true
is_fed (Some Check) = true
is_fed (Some (Generate number print)) = false
is_fed (Some (Run workers)) = false
is_fed None = false

-- a collection is resharded
abbrev pub is_running : Option Asked → Bool
is_running (Some Plain) = true
is_running (Some Check) = false
is_running (Some (Generate number print)) = not print
is_running (Some (Run workers)) = false
is_running None = false

-- the longest input
abbrev pub input_limit : ℕ
input_limit = 67108864

abbrev pub usage_text : List ℕ
usage_text = line (codes "usage: reshard plain | check | run --workers N | generate N [--print]")

abbrev pub too_long_text : List ℕ
too_long_text = line (codes "refused: too long, limit 67108864")

abbrev pub read_fault_text : List ℕ
read_fault_text = line (codes "read fault")

abbrev pub no_memory_text : List ℕ
no_memory_text = line (codes "no memory")

-- a run needs a cluster where there are clients, steps or a plan
abbrev pub needs_cluster : Setup → Bool
needs_cluster setup =
    nat_lt 0 (length setup.clients) || (nat_lt 0 (length setup.steps) || nat_lt 0 (length setup.plan))

abbrev pub status_of : End → ℕ
status_of Committed = 0
status_of (Aborted cause) = 1

-- what is said: the status that is meant, the turns, the end and the events of a run, and the text
pub record Saying : Type 0 where
  pub meant : ℕ
  pub order : List Turn
  pub end : Option End
  pub trace : Option (List Made)
  pub text : List ℕ

-- a text beside which nothing ran
abbrev pub alone : ℕ → List ℕ → Saying
alone meant text = record { meant = meant; order = []; end = None; trace = None; text = text }

-- what an outcome says by a text
abbrev pub said_in : Outcome → List ℕ → Saying
said_in outcome text = record {
  meant = outcome.meant;
  order = outcome.order;
  end = outcome.end;
  trace = outcome.trace;
  text = text;
}

-- A run of the setup: the order is lawful, the end is its end and names no failure without licence, and the text is the
-- page of that order, with the lines that each of the file's steps showed.
pub record IsRunOf (setup : Setup) (said : Saying) : Type 0 where
  pub ended : End
  pub shown : List (List Line)
  pub each_step : length shown ≡ length setup.steps
  pub lawful : IsLawful setup said.order ended
  pub licensed : HasLicence setup.plan (crash_steps setup) ended
  pub end_is : said.end ≡ Some ended
  pub meant_is : said.meant ≡ status_of ended
  pub page_is : said.text ≡ page_with_lines_of setup (lines_from setup 1 shown) said.order ended

-- the end, if there is one, is no failure
abbrev pub HasNotFailed : Option End → Type 0
HasNotFailed end = (ended : End) → end ≡ Some ended → is_failure ended ≡ false

-- a run whose documents are placed, without a cluster: the text is the page of the order, and no step showed a line
pub record IsPlacement (setup : Setup) (said : Saying) : Type 0 where
  pub needs : needs_cluster setup ≡ false
  pub run : IsRunOf setup said
  pub well : HasNotFailed said.end
  pub trace_is : said.trace ≡ None
  pub page_is : said.text ≡ page_of setup said.order run.ended

-- the turns, and the end with its status, are those of a core that decided
pub record IsCoreEnd (core : CoreOf) (ended : End) (said : Saying) : Type 0 where
  pub decided : core.cluster.control.decision ≡ Some ended
  pub order_is : said.order ≡ core.order
  pub end_is : said.end ≡ Some ended
  pub meant_is : said.meant ≡ status_of ended

-- A run on a cluster: from the opening state, with the lucks that the plan says, the file's steps and then the sweep.
-- The events are that core's, the text is its page, with the steps' lines, and an end that is a failure has its licence
-- by the file's own plan and its steps that crash links. It is a run of one collection: the order is lawful, and the
-- page is that of the order.
pub record IsClusterRunOf (setup : Setup) (said : Saying) : Type 0 where
  pub shown : List (List Line)
  pub last : CoreOf
  pub ended : End
  pub run : HasRun setup shown last
  pub ends : IsCoreEnd last ended said
  pub licensed : HasLicence setup.plan (crash_steps setup) ended
  pub trace_is : said.trace ≡ Some last.trace
  pub page_is : said.text ≡ core_page setup (lines_from setup 1 shown) last ended
  pub lawful : IsLawful setup said.order ended
  pub page_of_order : said.text ≡ page_with_lines_of setup (lines_from setup 1 shown) said.order ended

-- what a setup's run comes to
pub data RunsTo (setup : Setup) (said : Saying) : Type 0 where
  placed : IsPlacement setup said → RunsTo setup said
  clustered : needs_cluster setup ≡ true → IsClusterRunOf setup said → RunsTo setup said

-- the run of a generated setup by the sweep alone: its order is lawful, and the text is the summary of the core and of
-- that order
pub record IsSummaryOf (number : ℕ) (said : Saying) : Type 0 where
  pub last : CoreOf
  pub ended : End
  pub run : HasRunGenerated number last
  pub ends : IsCoreEnd last ended said
  pub trace_is : said.trace ≡ None
  pub text_is : said.text ≡ core_summary number (generated number) last ended
  pub lawful : IsLawful (generated number) said.order ended
  pub licensed : HasLicence (generated number).plan (crash_steps (generated number)) ended
  pub text_of_order : said.text ≡ order_summary number (generated number) said.order ended

-- the whole input was read, and is no longer than the limit
pub record IsWhole (source : Seen) (bytes : List ℕ) : Type 0 where
  pub within : length bytes ≤ input_limit
  pub all : GivesAll source.old.bytes source.new.bytes bytes

-- What is said, and from what cause. Bytes are those that the source had left, where it tells them. Want of memory is
-- free, but where there are no words.
pub data Means (words : List (String Global)) (source : Seen) (said : Saying) : Type 0 where
  usage : is_served (asked_by words) ≡ false → source.new ≡ source.old → said ≡ alone 2 usage_text
      → Means words source said
  read_fault : is_fed (asked_by words) ≡ true → Rose source.old.faults source.new.faults
      → said ≡ alone 4 read_fault_text → Means words source said
  too_long : is_fed (asked_by words) ≡ true → GivesFirst source.old.bytes source.new.bytes (input_limit + 1)
      → said ≡ alone 3 too_long_text → Means words source said
  refused : (bytes : List ℕ) (fault : SetupFault) → is_fed (asked_by words) ≡ true → IsWhole source bytes
      → IsRefused bytes fault → said ≡ alone 3 (refusal_text fault) → Means words source said
  ran : (bytes : List ℕ) (setup : Setup) → Asks words Plain → IsWhole source bytes → IsSetup bytes setup
      → RunsTo setup said → Means words source said
  checked : (bytes : List ℕ) (setup : Setup) → Asks words Check → IsWhole source bytes → IsSetup bytes setup
      → said ≡ alone 0 (checked_text setup) → Means words source said
  summed : (number : ℕ) → Asks words (Generate number false) → source.new ≡ source.old → IsSummaryOf number said
      → Means words source said
  printed : (number : ℕ) → Asks words (Generate number true) → source.new ≡ source.old
      → said ≡ alone 0 (setup_text (generated number)) → Means words source said
  no_memory : words ≢ [] → (is_fed (asked_by words) ≡ false → source.new ≡ source.old) → said ≡ alone 6 no_memory_text
      → Means words source said

-- what was written of a text: all of it, with the status that is meant, or its first bytes, with status 5
pub data IsSent (sink : Seen) (text : List ℕ) (outcome : Outcome) : Type 0 where
  whole : Appends sink.old.bytes sink.new.bytes text → outcome.status ≡ outcome.meant → outcome.sent ≡ length text
      → IsSent sink text outcome
  cut : Rose sink.old.faults sink.new.faults → outcome.sent < length text
      → Appends sink.old.bytes sink.new.bytes (take outcome.sent text) → outcome.status ≡ 5 → IsSent sink text outcome

-- an outcome: what is said has its cause, and is sent
pub record IsOutcome (words : List (String Global)) (source sink : Seen) (outcome : Outcome) : Type 0 where
  pub text : List ℕ
  pub means : Means words source (said_in outcome text)
  pub sent : IsSent sink text outcome

-- a call of these words, source and sink ended with this status
abbrev pub EndsWith : List (String Global) → Seen → Seen → ℕ → Type 0
EndsWith words source sink status =
    (outcome : Outcome) × IsOutcome words source sink outcome × (outcome.status ≡ status)
