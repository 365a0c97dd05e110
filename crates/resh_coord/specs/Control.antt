-- The coordinator's state, and what each call makes of it.
use Rattle.std.specs.Prelude.{◌≡◌, ◌<◌, ℕ, ◌+◌, ◌-◌, ◌^◌, min, Bool, true, false, not, ◌&&◌, ◌||◌, cond, List, length, replicate, Option, Some, None, is_some, is_none, nat_lt, slice_index_or, slice_set}
use Rattle.std.specs.List.{list_all, position_or_len}
use Rattle.resh_value.specs.declared.value.ShardId.{ShardId}
use Rattle.resh_value.specs.declared.value.Value.{Value}
use Rattle.resh_progress.specs.declared.message.Message.{Message}
use Rattle.resh_progress.specs.declared.message.Message.TheVariants.{Prepare, Donate, Block, Install, Release}
use Rattle.resh_coord.specs.declared.cause.Cause.{Cause}
use Rattle.resh_coord.specs.declared.cause.Cause.TheVariants.{Clash}
use Rattle.resh_coord.specs.declared.cause.End.{End}
use Rattle.resh_coord.specs.declared.cause.End.TheVariants.{Committed, Aborted}
use Rattle.resh_coord.specs.declared.phase.Asked.{Asked}
use Rattle.resh_coord.specs.declared.phase.Asked.TheVariants.{Accepted, TooLate}
use Rattle.resh_coord.specs.declared.phase.Phase.{Phase}
use Rattle.resh_coord.specs.declared.phase.Phase.TheVariants.{Initializing, PreparingToDonate, Cloning, Applying, BlockingWrites, Committing, Aborting, Done}
use Rattle.resh_coord.specs.declared.state.ControlState.{ControlState}

abbrev pub Control : Type 0
Control = ControlState

-- a new coordinator of so many shards
abbrev pub at_first : ℕ → Control
at_first shards =
    record {
      phase = Initializing;
      fetch_time = 0;
      told = replicate shards false;
      reported = replicate shards false;
      clashes = replicate shards None;
      decision = None;
      crashes = 0;
    }

abbrev pub all_true : List Bool → Bool
all_true marks = list_all (λ mark. mark) marks

abbrev pub is_true_at : List Bool → ℕ → Bool
is_true_at marks place = slice_index_or marks place false

-- what shards are told in a phase
abbrev pub message_in : Phase → ℕ → Option Message
message_in PreparingToDonate fetch_time = Some Prepare
message_in Cloning fetch_time = Some (Donate fetch_time)
message_in BlockingWrites fetch_time = Some Block
message_in Committing fetch_time = Some Install
message_in Aborting fetch_time = Some Release
message_in phase fetch_time = None

abbrev pub message_of : Control → Option Message
message_of c = message_in c.phase c.fetch_time

-- in these phases recipients report
abbrev pub takes_reports : Phase → Bool
takes_reports Cloning = true
takes_reports Applying = true
takes_reports BlockingWrites = true
takes_reports phase = false

-- a clash is reported only once writes are blocked
abbrev pub takes_clash : Phase → Option Value → Bool
takes_clash phase None = true
takes_clash BlockingWrites (Some id) = true
takes_clash phase (Some id) = false

-- a shard may be told: there is a message, and it is one of the shards
abbrev pub may_tell : Control → ℕ → Bool
may_tell c shard = is_some (message_of c) && nat_lt shard (length c.told)

-- a recipient may report: in such a phase, and once
abbrev pub may_report : Control → ℕ → Bool
may_report c recipient =
    takes_reports c.phase && (nat_lt recipient (length c.reported) && not (is_true_at c.reported recipient))

-- a new phase, in which nobody was told and nobody reported
abbrev pub with_phase : Phase → Control → Control
with_phase phase c =
    record c { phase = phase; told = replicate (length c.told) false; reported = replicate (length c.reported) false }

abbrev pub with_told : ℕ → Control → Control
with_told shard c = record c { told = slice_set c.told shard true }

abbrev pub with_report : ℕ → Option Value → Control → Control
with_report shard clash c =
    record c { reported = slice_set c.reported shard true; clashes = slice_set c.clashes shard clash }

abbrev pub with_crash : Control → Control
with_crash c = record c { crashes = min (c.crashes + 1) (2 ^ 32 - 1) }

abbrev pub decided : End → Phase → Control → Control
decided end phase c = record (with_phase phase c) { decision = Some end }

abbrev pub aborted : Cause → Control → Control
aborted cause c = decided (Aborted cause) Aborting c

-- the first shard that reported a clash
abbrev pub first_clash : List (Option Value) → ℕ
first_clash clashes = position_or_len is_some clashes

-- what is decided where a shard reported the first clash, or none did
abbrev pub decided_at : ℕ → Option Value → Control → Control
decided_at shard None c = decided Committed Committing c
decided_at shard (Some id) c = aborted (Clash (record { 0 = shard }) id) c

-- the clash of the first shard that reported one is taken out and refuses; where none did, the operation commits
abbrev pub decided_by_clashes : Control → Control
decided_by_clashes c =
    let shard : ℕ = first_clash c.clashes in
    decided_at shard (slice_index_or c.clashes shard None) (record c { clashes = slice_set c.clashes shard None })

-- the phase is left once all were told and reported whom it asks for
abbrev pub may_leave : Phase → List Bool → List Bool → Bool
may_leave PreparingToDonate told reported = all_true told
may_leave Cloning told reported = all_true told && all_true reported
may_leave Applying told reported = all_true reported
may_leave BlockingWrites told reported = all_true told && all_true reported
may_leave Committing told reported = all_true told
may_leave Aborting told reported = all_true told
may_leave phase told reported = false

abbrev pub may_advance : Control → Bool
may_advance c = may_leave c.phase c.told c.reported

-- what comes behind a phase, at a time
abbrev pub left : Phase → ℕ → Control → Control
left PreparingToDonate time c = record (with_phase Cloning c) { fetch_time = time }
left Cloning time c = with_phase Applying c
left Applying time c = with_phase BlockingWrites c
left BlockingWrites time c = decided_by_clashes c
left phase time c = with_phase Done c

abbrev pub advanced : ℕ → Control → Control
advanced time c = cond (may_advance c) (left c.phase time c) c

-- the operation begins once
abbrev pub begins : Phase → Bool
begins Initializing = true
begins phase = false

abbrev pub begun : Control → Control
begun c = cond (begins c.phase) (with_phase PreparingToDonate c) c

-- an abort comes where nothing is decided
abbrev pub unless_decided : Cause → Control → Control
unless_decided cause c = cond (is_some c.decision) c (aborted cause c)

abbrev pub asked_of : Bool → Asked
asked_of true = TooLate
asked_of false = Accepted

-- what is decided goes with the phase
abbrev pub Agrees : Phase → Option End → Type 0
Agrees Committing decision = decision ≡ Some Committed
Agrees Aborting decision = (cause : Cause) × (decision ≡ Some (Aborted cause))
Agrees Done decision = is_some decision ≡ true
Agrees phase decision = decision ≡ None

-- what every coordinator meets
pub record IsControl (c : Control) : Type 0 where
  pub few : length c.told < 2 ^ 32
  pub reports : length c.reported ≡ length c.told
  pub notes : length c.clashes ≡ length c.told
  pub decision : Agrees c.phase c.decision
