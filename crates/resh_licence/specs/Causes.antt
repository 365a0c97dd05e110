-- What has happened among the events of a trace that a failure comes of.
use Rattle.std.specs.Prelude.{◌≡◌, ℕ, ◌≤◌, Bool, true, false, ◌&&◌, List, length, filter, Option, Some, None}
use Rattle.std.specs.List.{Contains}
use Rattle.std.specs.Option.{option_map_or}
use Rattle.resh_value.specs.declared.value.ShardId.{ShardId}
use Rattle.resh_coord.specs.declared.cause.Node.{Node}
use Rattle.resh_coord.specs.declared.cause.Node.TheVariants as node
use Rattle.resh_coord.specs.declared.cause.Why.{Why}
use Rattle.resh_coord.specs.declared.cause.Why.TheVariants as why
use Rattle.resh_setup.specs.declared.event.Event.{Event}
use Rattle.resh_setup.specs.declared.event.Event.TheVariants.{Begin, Tell, Advance, Clone, Fetch, Apply, Again, Record}
use Rattle.resh_setup.specs.declared.plan.Who.{Who}
use Rattle.resh_setup.specs.declared.plan.Who.TheVariants.{Coordinator, Link, Lane}
use Rattle.resh_setup.specs.declared.trace.Made.{Made}
use Rattle.resh_setup.specs.declared.trace.Met.{Met}
use Rattle.resh_setup.specs.declared.trace.Met.TheVariants.{Row, CrashedBefore, CrashedAfter, Failed, Lost, NoMemory, NoMemoryInMove}
use Rattle.resh_model.specs.Licence.{is_crash_of, is_of}
use Rattle.resh_events.specs.Follows.{limit, own_link}

-- whose luck an event asks
abbrev pub activity_of : Event → Option Who
activity_of Begin = Some Coordinator
activity_of Advance = Some Coordinator
activity_of (Tell s) = Some Coordinator
activity_of (Clone r d) = Some (Link r d)
activity_of (Fetch r d) = Some (Link r d)
activity_of (Record r d) = Some (Link r d)
activity_of (Apply r d l) = Some (Lane r d l)
activity_of (Again r d l position) = Some (Lane r d l)
activity_of other = None

-- an event of one of a node's activities
abbrev pub is_event_of : Node → Event → Bool
is_event_of n event = option_map_or (λ who. is_of n who) (activity_of event) false

-- an event of a node met this
pub record HasMet (trace : List Made) (n : Node) (met : Met) : Type 0 where
  pub made : Made
  pub there : Contains trace made
  pub of_node : is_event_of n made.event ≡ true
  pub meets : made.met ≡ met

abbrev pub is_crash_met : Met → Bool
is_crash_met Row = false
is_crash_met CrashedBefore = true
is_crash_met CrashedAfter = true
is_crash_met Failed = false
is_crash_met Lost = false
is_crash_met NoMemory = false
is_crash_met NoMemoryInMove = false

-- a crash of the coordinator is met by its own event, and that of a link is an event
abbrev pub is_crash_in : Who → Made → Bool
is_crash_in Coordinator made = is_event_of node.Coordinator made.event && is_crash_met made.met
is_crash_in (Link r d) made = is_crash_of (Link r d) made.event
is_crash_in (Lane r d l) made = false

abbrev pub crashes_in : List Made → Who → ℕ
crashes_in trace who = length (filter (is_crash_in who) trace)

-- one of a node's links, or the coordinator, crashed as often as is a failure
pub record HasCrashedOften (trace : List Made) (n : Node) : Type 0 where
  pub who : Who
  pub of_node : is_of n who ≡ true
  pub enough : limit ≤ crashes_in trace who

-- a commit of the node failed, all tries of one of its calls were lost, or it crashed too often
abbrev pub HasHappened : List Made → Node → Why → Type 0
HasHappened trace n why.Commit = HasMet trace n Failed
HasHappened trace n why.Link = HasMet trace n Lost
HasHappened trace n why.Crashes = HasCrashedOften trace n

-- an event of a link wanted memory
pub record HasWanted (trace : List Made) (r d : ShardId) : Type 0 where
  pub made : Made
  pub there : Contains trace made
  pub of_link : own_link made.event ≡ Some (r, d)
  pub meets : made.met ≡ NoMemory
