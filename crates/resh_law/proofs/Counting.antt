-- A crash of the coordinator is counted, and nothing else.
use Rattle.std.proofs.Common.{ℕ, List, Option}
use Rattle.resh_cells.specs.Cells.{on_control}
use Rattle.resh_cells.specs.Clocks.{with_clocks}
use Rattle.resh_cells.specs.declared.cell.Cell.{Cell}
use Rattle.resh_cells.specs.declared.cluster.Cluster.{Cluster}
use Rattle.resh_coord.specs.Control.{with_crash}
use Rattle.resh_coord.specs.declared.cause.End.{End}
use Rattle.resh_events.specs.Luck.{Asks, quiet, commits, delivers, counted}
use Rattle.resh_model.specs.Orders.{State}
use Rattle.resh_setup.specs.declared.plan.Who.TheVariants.{Coordinator, Link, Lane}
use Rattle.resh_setup.specs.declared.setup.Setup.{Setup}
use Rattle.resh_invariant.specs.Keeping.{Keeps}
use Rattle.resh_invariant.specs.Sources.{Clones}
use Rattle.resh_law.proofs.Marking.{KeepsMark}

-- no part of the invariant reads the count
crash_keeps : (setup : Setup) (state : State) (clones : Clones) (cluster : Cluster) → Keeps setup state clones cluster
    → Keeps setup state clones (on_control with_crash cluster)
crash_keeps setup state clones cluster keeps = record {
  shard_count = keeps.shard_count;
  clock_count = keeps.clock_count;
  lane_rows = keeps.lane_rows;
  link_rows = keeps.link_rows;
  client_count = keeps.client_count;
  answered = keeps.answered;
  noted = record { told = keeps.noted.told; reported = keeps.noted.reported; clashes = keeps.noted.clashes };
  decided = keeps.decided;
  clients = keeps.clients;
  donors = keeps.donors;
  recipients = keeps.recipients;
  contents = keeps.contents;
}

module _ (setup : Setup) (state : State) (before : Option End) (time : ℕ) (cells : List Cell) where
  pub counted_keeps : (asked : Asks) (next : Cluster) → KeepsMark setup state before (with_clocks time cells next)
      → KeepsMark setup state before (with_clocks time cells (counted setup asked next))
  counted_keeps quiet next keeps = keeps
  counted_keeps (commits Coordinator) next keeps =
      (keeps.0, (keeps.1.0, crash_keeps setup _ keeps.1.0 (with_clocks time cells next) keeps.1.1))
  counted_keeps (commits (Link r d)) next keeps = keeps
  counted_keeps (commits (Lane r d l)) next keeps = keeps
  counted_keeps (delivers who) next keeps = keeps
