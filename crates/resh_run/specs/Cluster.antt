-- A setup's run on a cluster: the file's steps one by one, and then the sweep.
use Rattle.std.specs.Prelude.{◌≡◌, ℕ, ◌+◌, List, [], ◌∷◌, ◌++◌, length, map, true, Some}
use Rattle.resh_coord.specs.declared.cause.End.{End}
use Rattle.resh_command.specs.declared.reply.Reply.{Reply}
use Rattle.resh_versions.specs.Chains.{Document}
use Rattle.resh_shard.specs.Shards.{documents_of}
use Rattle.resh_setup.specs.declared.event.Event.{Event}
use Rattle.resh_setup.specs.declared.setup.Setup.{Setup}
use Rattle.resh_setup.specs.declared.turn.Turn.{Turn}
use Rattle.resh_model.specs.Orders.{holdings_of, last_state}
use Rattle.resh_cells.specs.declared.cluster.Cluster.{Cluster}
use Rattle.resh_events.specs.Lucks.{Lucks, planned}
use Rattle.resh_events.specs.Steps.{Line}
use Rattle.resh_events.specs.Sweep.{is_over}
use Rattle.resh_core.specs.Cores.{CoreOf, HasStepped, HasSwept, opening_core}
use Rattle.resh_gen.specs.Generated.{generated}
use Rattle.resh_gen.specs.Summary.{summary_of}
use Rattle.resh_report.specs.Lines.{names_of}
use Rattle.resh_report.specs.Page.{page_with_lines_text}
use Rattle.resh_report.specs.StepLines.{step_line}
use Rattle.resh_run.specs.declared.cluster.ClusterRun.{ClusterRun}
use Rattle.resh_run.specs.declared.cluster.Written.{Written}

-- some events as steps one after another, and the lines that each of them shows
abbrev pub HaveStepped : List Event → CoreOf → Lucks → List (List Line) → CoreOf → Lucks → Type 0
HaveStepped [] old before [] new later = (new ≡ old) × (later ≡ before)
HaveStepped [] old before (shown ∷ more) new later = ⊥
HaveStepped (event ∷ events) old before [] new later = ⊥
HaveStepped (event ∷ events) old before (shown ∷ more) new later =
    (middle : CoreOf) × (told : Lucks) × HasStepped old before event shown middle told
    × HaveStepped events middle told more new later

-- the words of the lines of the step of this number
abbrev pub lines_at : Setup → ℕ → List Line → List (List ℕ)
lines_at setup number lines = map (λ l. step_line setup.shards (names_of setup.clients) number l.0 l.1) lines

-- the words of all lines of steps, numbered from this number on
abbrev pub lines_from : Setup → ℕ → List (List Line) → List (List ℕ)
lines_from setup number [] = []
lines_from setup number (shown ∷ more) = lines_at setup number shown ++ lines_from setup (number + 1) more

-- what each client was answered, and what each shard holds
abbrev pub replies_in : Cluster → List (List Reply)
replies_in cluster = map (λ c. c.replies) cluster.clients

abbrev pub holdings_in : Cluster → List (List Document)
holdings_in cluster = map (λ c. documents_of c.shard) cluster.shards

-- how many documents each shard holds
abbrev pub counts_in : Cluster → List ℕ
counts_in cluster = map (λ c. length (documents_of c.shard)) cluster.shards

-- the page of a core, with the lines of its steps
abbrev pub core_page : Setup → List (List ℕ) → CoreOf → End → List ℕ
core_page setup lines core end =
    page_with_lines_text lines setup.shards (names_of setup.clients) core.order end (replies_in core.cluster)
    (holdings_in core.cluster)

-- what a core's run came to, in short
abbrev pub core_summary : ℕ → Setup → CoreOf → End → List ℕ
core_summary number setup core end = summary_of number setup end (replies_in core.cluster) (counts_in core.cluster)

-- the page of an order, with the lines of steps: replies and documents are those of the order's last state
abbrev pub page_with_lines_of : Setup → List (List ℕ) → List Turn → End → List ℕ
page_with_lines_of setup lines order end =
    page_with_lines_text lines setup.shards (names_of setup.clients) order end (last_state setup order).answers
    (holdings_of (last_state setup order))

-- what an order came to, in short, by its last state
abbrev pub order_summary : ℕ → Setup → List Turn → End → List ℕ
order_summary number setup order end = summary_of number setup end (last_state setup order).answers
    (map (λ documents. length documents) (holdings_of (last_state setup order)))

-- one step was made, and its lines were added
abbrev pub StepsOnce : Setup → ℕ → Event → CoreOf → Lucks → List (List ℕ) → CoreOf → Lucks → List (List ℕ) → Type 0
StepsOnce setup number event old before texts new later more =
    (shown : List Line) × HasStepped old before event shown new later × (more ≡ texts ++ lines_at setup number shown)

-- all steps of a file were made, and these are their lines
abbrev pub HaveAllStepped : Setup → CoreOf → Lucks → List (List ℕ) → CoreOf → Lucks → Type 0
HaveAllStepped setup old before texts new later =
    (shown : List (List Line)) × HaveStepped setup.steps old before shown new later
    × (texts ≡ lines_from setup 1 shown)

-- what has run is this core's: its turns, its events, its end and its page
pub record HasEnded (setup : Setup) (texts : List (List ℕ)) (core : CoreOf) (ran : ClusterRun) : Type 0 where
  pub order_is : ran.order ≡ core.order
  pub trace_is : ran.trace ≡ core.trace
  pub end_is : core.cluster.control.decision ≡ Some ran.end
  pub text_is : ran.text.items ≡ core_page setup texts core ran.end

-- what is written of a core is its end and its page
pub record IsPaged (setup : Setup) (texts : List (List ℕ)) (core : CoreOf) (written : Written) : Type 0 where
  pub end_is : core.cluster.control.decision ≡ Some written.end
  pub text_is : written.text.items ≡ core_page setup texts core written.end

-- from the opening state, with the lucks that the plan says, the file's steps were made with these lines, and then the
-- sweep, until the coordinator was done and no client had a command left
pub record HasRun (setup : Setup) (shown : List (List Line)) (last : CoreOf) : Type 0 where
  pub middle : CoreOf
  pub told : Lucks
  pub later : Lucks
  pub stepped : HaveStepped setup.steps (opening_core setup) (planned setup) shown middle told
  pub swept : HasSwept middle told last later
  pub over : is_over setup last.cluster ≡ true

-- so run, and so ended
pub record IsRunOnCluster (setup : Setup) (ran : ClusterRun) : Type 0 where
  pub shown : List (List Line)
  pub last : CoreOf
  pub run : HasRun setup shown last
  pub ended : HasEnded setup (lines_from setup 1 shown) last ran

-- what a generated setup's run came to is this core's, in short
pub record HasSummed (number : ℕ) (setup : Setup) (core : CoreOf) (ran : ClusterRun) : Type 0 where
  pub order_is : ran.order ≡ core.order
  pub end_is : core.cluster.control.decision ≡ Some ran.end
  pub text_is : ran.text.items ≡ core_summary number setup core ran.end

-- what is written of it is its end and its summary
pub record IsSummed (number : ℕ) (setup : Setup) (core : CoreOf) (written : Written) : Type 0 where
  pub end_is : core.cluster.control.decision ≡ Some written.end
  pub text_is : written.text.items ≡ core_summary number setup core written.end

-- the sweep of a generated setup from the opening state, until all was done
pub record HasRunGenerated (number : ℕ) (last : CoreOf) : Type 0 where
  pub later : Lucks
  pub swept : HasSwept (opening_core (generated number)) (planned (generated number)) last later
  pub over : is_over (generated number) last.cluster ≡ true

pub record IsGeneratedRun (number : ℕ) (ran : ClusterRun) : Type 0 where
  pub last : CoreOf
  pub run : HasRunGenerated number last
  pub summed : HasSummed number (generated number) last ran
