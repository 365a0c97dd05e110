-- What comes of a client's next command.
use Rattle.std.specs.Prelude.{◌≡◌, ◌<◌, ℕ, true, List, ◌∷◌, map, None}
use Rattle.resh_stamp.specs.Times.{end_of_time, next_time}
use Rattle.resh_stamp.specs.declared.stamp.Stamp.{Stamp}
use Rattle.resh_setup.specs.declared.event.Event.TheVariants as event
use Rattle.resh_setup.specs.declared.seen.Seen.{Seen}
use Rattle.resh_setup.specs.declared.setup.Setup.{Setup}
use Rattle.resh_setup.specs.declared.trace.Met.{Met}
use Rattle.resh_cells.specs.Clocks.{clock_of, first_number}
use Rattle.resh_cells.specs.declared.cell.Cell.{Cell}
use Rattle.resh_cells.specs.declared.cluster.Cluster.{Cluster}
use Rattle.resh_events.specs.Luck as luck
use Rattle.resh_asking.specs.declared.asked.Asked.{Asked}
use Rattle.resh_asking.specs.declared.asked.Held.{Held}

-- the stamp of some cells
pub record IsStamped (setup : Setup) (cluster : Cluster) (cells : List Cell) (stamp : Stamp) : Type 0 where
  pub time : stamp.time ≡ next_time 0 (0 ∷ map (clock_of cluster.clocks) cells)
  pub node : stamp.node ≡ first_number setup cells
  pub in_time : stamp.time < end_of_time

-- these cells, and their stamp
pub record IsHeld (setup : Setup) (cluster : Cluster) (cells : List Cell) (held : Held) : Type 0 where
  pub are : held.cells.items ≡ cells
  pub stamp : IsStamped setup cluster cells held.stamp

-- a turn as the table of events has it, by what it met
pub record IsTurn (setup : Setup) (old new : Cluster) (client : ℕ) (asked : Asked) : Type 0 where
  pub met : luck.may_meet setup old (event.Client client) None asked.met ≡ true
  pub cells : asked.cells.items ≡ luck.holds setup old (event.Client client) asked.met
  pub stamp : IsStamped setup old asked.cells.items asked.stamp
  pub change : new ≡ luck.change setup asked.stamp old (event.Client client) None asked.met
  pub seen : asked.seen ≡ luck.seen setup asked.stamp old (event.Client client) None asked.met

-- what came of it met and showed this, with the cells that were held
pub record Shows (held : Held) (met : Met) (seen : Seen) (asked : Asked) : Type 0 where
  pub is_met : asked.met ≡ met
  pub is_seen : asked.seen ≡ seen
  pub cells : asked.cells.items ≡ held.cells.items
  pub stamp : asked.stamp ≡ held.stamp
