-- The row of a client keeps the invariant, with its turn.
use Rattle.std.specs.Prelude.{◌≡◌, ◌<◌, ◌^◌, ℕ, true, List, [], ◌∷◌, ◌++◌, Option, Some, None, length}
use Rattle.resh_bag.specs.Parts.{is_among}
use Rattle.resh_cells.specs.Clocks.{clock_of}
use Rattle.resh_cells.specs.declared.cell.Cell.TheVariants as cell
use Rattle.resh_cells.specs.declared.cluster.Clocks.{Clocks}
use Rattle.resh_cells.specs.declared.cluster.Cluster.{Cluster}
use Rattle.resh_command.specs.declared.command.Command.{Command}
use Rattle.resh_events.specs.Targets.{all_targets, next_command}
use Rattle.resh_events.specs.Turns.{mark_of, row_turns}
use Rattle.resh_events.specs.rows.Client as client
use Rattle.resh_events.specs.rows.Refused as refused
use Rattle.resh_model.specs.Orders.{AllowsAll, State, walked}
use Rattle.resh_setup.specs.Validity.{IsValid}
use Rattle.resh_setup.specs.declared.setup.Setup.{Setup}
use Rattle.resh_setup.specs.declared.turn.Turn.{Turn}
use Rattle.resh_setup.specs.declared.turn.Turn.TheVariants as turn
use Rattle.resh_stamp.specs.declared.stamp.Stamp.{Stamp}
use Rattle.resh_invariant.specs.Frames.{AreLater}
use Rattle.resh_invariant.specs.Keeping.{Keeps}
use Rattle.resh_invariant.specs.Sources.{Clones}

-- the invariant, with some documents of the fetch time
abbrev pub IsKept : Setup → State → Cluster → Type 0
IsKept setup state cluster = (clones : Clones) × Keeps setup state clones cluster

-- the order may go on by some turns, and the invariant is kept with them
abbrev pub KeepsTurns : Setup → State → List Turn → Cluster → Type 0
KeepsTurns setup state turns cluster = AllowsAll setup state turns × IsKept setup (walked setup state turns) cluster

-- the shards to which a command goes
abbrev pub shards_for : Setup → Cluster → ℕ → Option Command → List ℕ
shards_for setup cluster c None = []
shards_for setup cluster c (Some command) = all_targets setup cluster c command

-- an event's time is later than the clocks of some shards, which are set to it
abbrev pub AreSet : Setup → Cluster → Stamp → Clocks → List ℕ → Type 0
AreSet setup cluster stamp clocks shards = (s : ℕ) → s < length setup.shards → is_among shards s ≡ true
    → (clock_of cluster.clocks (cell.Shard s) < stamp.time) × (clock_of clocks (cell.Shard s) ≡ stamp.time)

-- the turns of a client's row: its command where it is answered, and the drop of an abort that is accepted
abbrev pub turns_by : Setup → Cluster → Stamp → ℕ → List Turn
turns_by setup cluster stamp c = row_turns setup cluster c (next_command setup cluster c)
    ++ mark_of cluster.control.decision (client.change setup cluster stamp c).control.decision

pub record ClientRowsKeep : Type 0 where
  -- a client asks its next command, in a valid setup, by an event later than the clocks of the shards to which it goes
  pub asks : (setup : Setup) (state : State) (clones : Clones) (cluster : Cluster) (c : ℕ) (stamp : Stamp)
      (clocks : Clocks) → IsValid setup → Keeps setup state clones cluster → client.may setup cluster c ≡ true
      → AreLater cluster.clocks clocks
      → AreSet setup cluster stamp clocks (shards_for setup cluster c (next_command setup cluster c))
      → stamp.node < 2 ^ 32
      → KeepsTurns setup state (turns_by setup cluster stamp c)
      (record (client.change setup cluster stamp c) { clocks = clocks })
  -- or is refused for want of memory
  pub refuses : (setup : Setup) (state : State) (clones : Clones) (cluster : Cluster) (c : ℕ)
      → Keeps setup state clones cluster → client.may setup cluster c ≡ true
      → KeepsTurns setup state (turn.Command c true ∷ []) (refused.change setup cluster c)
