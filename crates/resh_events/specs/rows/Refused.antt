-- A client's next command is refused for want of memory, wherever it has one left: the reply says so, and nothing else
-- changes.
use Rattle.std.specs.Prelude.{ℕ, Bool, false, List, [], ◌∷◌, Option, Some, None, length, nat_lt}
use Rattle.resh_command.specs.declared.command.Command.{Command}
use Rattle.resh_command.specs.declared.reply.Reply.TheVariants.{NoMemory}
use Rattle.resh_setup.specs.declared.setup.Setup.{Setup}
use Rattle.resh_cells.specs.declared.cluster.Cluster.{Cluster}
use Rattle.resh_cells.specs.declared.cell.Cell.{Cell}
use Rattle.resh_cells.specs.declared.cell.Cell.TheVariants as named
use Rattle.resh_events.specs.Targets.{first_targets, move_targets, next_command}
use Rattle.resh_setup.specs.declared.seen.Seen.{Seen}
use Rattle.resh_setup.specs.declared.seen.Seen.TheVariants.{Command as Answered}
use Rattle.resh_events.specs.rows.Client as client

module _ (setup : Setup) (cluster : Cluster) where
  -- a move has begun where a shard has answered that an update's result belongs to another one
  abbrev pub has_moved : Option Command → ℕ → Bool
  has_moved None c = false
  has_moved (Some command) c = nat_lt 0 (length (move_targets setup cluster c command))

  abbrev pub may_in_move : ℕ → Bool
  may_in_move c = has_moved (next_command setup cluster c) c

  abbrev pub change : ℕ → Cluster
  change c = client.with_reply c NoMemory cluster

  abbrev pub seen : ℕ → Seen
  seen c = Answered (client.next_number cluster c)

  -- the client, and the coordinator for an abort, else the shards to which the command goes first; once a move has
  -- begun it holds what the command holds that is answered
  abbrev pub cells_of : ℕ → Option Command → List Cell
  cells_of c None = named.Client c ∷ []
  cells_of c (Some command) = client.cells_for setup cluster c command (first_targets setup cluster c command)

  abbrev pub holds : ℕ → List Cell
  holds c = cells_of c (next_command setup cluster c)
