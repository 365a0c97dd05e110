-- The rows that decide the fetch time and the mark keep the invariant.
use Rattle.std.specs.Prelude.{◌≡◌, ◌<◌, ◌↔◌, ℕ, true, List, length, None}
use Rattle.resh_value.specs.declared.value.Value.{Value}
use Rattle.resh_bag.specs.Placement.{IsClash}
use Rattle.resh_cells.specs.Cells.{lanes_of}
use Rattle.resh_cells.specs.Clocks.{clock_of}
use Rattle.resh_cells.specs.declared.cell.Cell.TheVariants as cell
use Rattle.resh_cells.specs.declared.cluster.Cluster.{Cluster}
use Rattle.resh_coord.specs.Control.{Control, decided_by_clashes, is_true_at}
use Rattle.resh_coord.specs.declared.phase.Phase.TheVariants as phase
use Rattle.resh_events.specs.Turns.{mark_of}
use Rattle.resh_events.specs.rows.Advance as advance
use Rattle.resh_model.specs.Orders.{AllowsAll, State, walked}
use Rattle.resh_place.specs.Lanes.{held_in}
use Rattle.resh_place.specs.Parts.{Waits, comes_from}
use Rattle.resh_rules.specs.Slots.{StandsFor}
use Rattle.resh_setup.specs.Validity.{IsValid}
use Rattle.resh_setup.specs.declared.setup.Setup.{Setup}
use Rattle.resh_setup.specs.declared.turn.Turn.{Turn}
use Rattle.resh_stamp.specs.declared.stamp.Stamp.{Stamp}
use Rattle.resh_invariant.specs.Keeping.{Keeps}
use Rattle.resh_invariant.specs.Sources.{Clones, told_clones}

-- the mark that the coordinator decides by what was noted
abbrev pub mark_by : Control → List Turn
mark_by control = mark_of None (decided_by_clashes control).decision

pub record MarkRowsKeep : Type 0 where
  -- where it leaves the phase of preparing, with its clock set to the event's time, which is the fetch time from then on
  pub fetch_time : (setup : Setup) (state : State) (clones : Clones) (cluster : Cluster) (stamp : Stamp)
      → Keeps setup state clones cluster → advance.may cluster ≡ true
      → cluster.control.phase ≡ phase.PreparingToDonate
      → clock_of cluster.clocks cell.Coordinator ≡ stamp.time
      → Keeps setup state (told_clones (advance.change stamp cluster)) (advance.change stamp cluster)
  -- where it leaves the blocking of writes: the mark may come, and the invariant is kept with it
  pub mark : (setup : Setup) (state : State) (clones : Clones) (cluster : Cluster) (stamp : Stamp) → IsValid setup
      → Keeps setup state clones cluster → advance.may cluster ≡ true
      → cluster.control.phase ≡ phase.BlockingWrites
      → AllowsAll setup state (mark_by cluster.control)
      × Keeps setup (walked setup state (mark_by cluster.control)) clones (advance.change stamp cluster)

-- from the report that a recipient is consistent up to the mark
pub record ConsistentStand : Type 0 where
  -- its outputs and stashes stand for its parts of the collection by old owner
  pub parts : (setup : Setup) (state : State) (clones : Clones) (cluster : Cluster) (r : ℕ) (id : Value)
      → IsValid setup → Keeps setup state clones cluster → cluster.control.phase ≡ phase.BlockingWrites
      → r < length setup.shards → is_true_at cluster.control.reported r ≡ true
      → StandsFor (λ donor. comes_from setup.new_map state.bag r donor id)
      (held_in setup.lanes (lanes_of cluster r) id)
  -- and a document waits in a stash exactly where a clash of its `_id` stands there
  pub clashes : (setup : Setup) (state : State) (clones : Clones) (cluster : Cluster) (r : ℕ) (id : Value)
      → IsValid setup → Keeps setup state clones cluster → cluster.control.phase ≡ phase.BlockingWrites
      → r < length setup.shards → is_true_at cluster.control.reported r ≡ true
      → Waits (held_in setup.lanes (lanes_of cluster r) id) ↔ IsClash setup.new_map state.bag r id
