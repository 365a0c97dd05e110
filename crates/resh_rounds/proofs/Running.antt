-- Every event keeps a running cluster.
use Rattle.std.proofs.Common.{◌≡◌, ◌∙◌, false, length}
use Rattle.resh_setup.specs.declared.setup.Setup.{Setup}
use Rattle.resh_cells.specs.Belonging.{IsClusterOf}
use Rattle.resh_cells.specs.Cells.{no_client}
use Rattle.resh_cells.specs.declared.cluster.Cluster.{Cluster}
use Rattle.resh_events.specs.Runs.{Moment, Run, after, cells_of}
use Rattle.resh_keeping.proofs.Kept.{clocks_keep, keeps, opens}
use Rattle.resh_ending.proofs.Places.{length-replicate}
use Rattle.resh_rounds.specs.Serving.{IsManned, IsRunning, OpensRunning, StaysRunning}
use Rattle.resh_rounds.proofs.Serving.{opens_serving, stays_serving}
use Rattle.resh_rounds.proofs.Supplying.{Goes, after_goes}

stays_manned : (setup : Setup) (run : Run) (m : Moment) → IsManned setup run.cluster → IsManned setup (after setup run m).cluster
stays_manned setup run m is =
    let goes : Goes run.cluster (after setup run m).cluster = after_goes setup run m in
    record {
      told = goes.stage.told ∙ is.told;
      reported = goes.stage.reported ∙ is.reported;
      clients = goes.many ∙ is.clients;
    }

stays_of : (setup : Setup) (run : Run) (m : Moment) → IsClusterOf setup run.cluster → IsClusterOf setup (after setup run m).cluster
unfolding after
stays_of setup run m is =
    clocks_keep setup m.made.stamp.time (cells_of setup run m.made.event m.made.met) _
    (keeps setup m.made.stamp run.cluster m.made.event m.given.piece m.made.met is)

pub stays_running : StaysRunning
stays_running setup run m is = record {
  manned = stays_manned setup run m is.manned;
  of = stays_of setup run m is.of;
  serving = stays_serving setup run m is.manned is.of is.serving;
}

pub opens_running : OpensRunning
opens_running setup = record {
  manned = record {
    told = length-replicate false (length setup.shards);
    reported = length-replicate false (length setup.shards);
    clients = length-replicate no_client (length setup.clients);
  };
  of = opens setup;
  serving = opens_serving setup;
}
