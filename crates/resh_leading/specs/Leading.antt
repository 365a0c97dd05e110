-- What leads a sweep on: stores that are no larger than what came, links that are open as long as nothing is decided,
-- and the pieces of a batch that is out, all of which were cut.
use Rattle.std.specs.Prelude.{◌≡◌, ◌≤◌, ◌<◌, ⊤, ℕ, ◌+◌, ◌*◌, true, false, cond, length, Option, Some, None, slice_get}
use Rattle.std.specs.FinMap.{entries}
use Rattle.std.specs.List.{Contains}
use Rattle.resh_cells.specs.Cells.{client_in, link_in, shard_in}
use Rattle.resh_cells.specs.Cuts.{cut_for}
use Rattle.resh_cells.specs.declared.cluster.Cluster.{Cluster}
use Rattle.resh_cells.specs.declared.cluster.LinkCell.{LinkCell}
use Rattle.resh_fetcher.specs.declared.state.Out.{Out}
use Rattle.resh_lane.specs.Lanes.{number_of}
use Rattle.resh_model.specs.Orders.{commands_of}
use Rattle.resh_oplog.specs.declared.piece.Piece.{Piece}
use Rattle.resh_progress.specs.Kinds.{ToBlock, ToDonate, ToInstall}
use Rattle.resh_progress.specs.Tellings.{has}
use Rattle.resh_rounds.specs.Sums.{upto}
use Rattle.resh_setup.specs.declared.setup.Setup.{Setup}

-- the commands of all clients, and those that were answered
abbrev pub commands_in : Setup → ℕ
commands_in setup = upto (length setup.clients) (λ c. length (commands_of (slice_get setup.clients c)))

abbrev pub answered_in : Setup → Cluster → ℕ
answered_in setup cluster = upto (length setup.clients) (λ c. length (client_in cluster c).replies)

-- no client was answered more than it asks. A shard logs two entries a command at most, and a final one for each
-- recipient once its writes are blocked; until it installs it has versions of no more documents than came.
pub record IsCounted (setup : Setup) (cluster : Cluster) : Type 0 where
  pub answers : (c : ℕ) → c < length setup.clients
      → length (client_in cluster c).replies ≤ length (commands_of (slice_get setup.clients c))
  pub logs : (s : ℕ) → s < length setup.shards
      → length (shard_in cluster s).shard.log.entries
      ≤ 2 * answered_in setup cluster + cond (has (shard_in cluster s).donor.told ToBlock) (length setup.shards) 0
  pub stores : (s : ℕ) → s < length setup.shards → has (shard_in cluster s).donor.told ToInstall ≡ false
      → length (entries (shard_in cluster s).shard.versions.chains) ≤ length setup.documents + answered_in setup cluster

-- each position of a lane between the kept record and the end of the batch that is out has a piece that was cut
abbrev pub AreAllCut : ℕ → LinkCell → Option Out → Type 0
AreAllCut lanes cell None = ⊤
AreAllCut lanes cell (Some out) = (lane position : ℕ) → lane < lanes
    → number_of cell.link.kept.lanes lane ≤ position → position < number_of out.lanes lane
    → (piece : Piece) × Contains (cut_for cell.sent lane) piece × (piece.position ≡ position)
    × (piece.donor ≡ cell.link.donor)

-- what leads on
pub record LeadsOn (setup : Setup) (cluster : Cluster) : Type 0 where
  pub counted : IsCounted setup cluster
  -- a link that was told the fetch time is open as long as nothing is decided
  pub opened : (r d : ℕ) → r < length setup.shards → d < length setup.shards → cluster.control.decision ≡ None
      → has (shard_in cluster r).donor.told ToDonate ≡ true → (link_in cluster r d).link.is_open ≡ true
  -- and hasn't failed
  pub alive : (r d : ℕ) → cluster.control.decision ≡ None → (link_in cluster r d).link.failed ≡ false
  pub cut : (r d : ℕ) → r < length setup.shards → d < length setup.shards
      → AreAllCut setup.lanes (link_in cluster r d) (link_in cluster r d).link.out
