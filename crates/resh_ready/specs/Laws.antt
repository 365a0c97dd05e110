-- A link that has nothing to do is ready.
use Rattle.std.specs.Prelude.{◌≡◌, ◌<◌, ◌⊎◌, ℕ, true, false, [], length}
use Rattle.resh_cells.specs.Cells.{link_in, links_of}
use Rattle.resh_cells.specs.declared.cluster.Cluster.{Cluster}
use Rattle.resh_events.specs.Steps.{may_step}
use Rattle.resh_events.specs.Sweep.{goes_on, next_reading}
use Rattle.resh_events.specs.rows.Cut as cut
use Rattle.resh_events.specs.rows.Fetch as fetch
use Rattle.resh_events.specs.rows.Record as keep
use Rattle.resh_events.specs.rows.Report.{are_ready}
use Rattle.resh_model.specs.Orders.{State}
use Rattle.resh_rounds.specs.Rounds.{is_waiting}
use Rattle.resh_setup.specs.Validity.{IsValid}
use Rattle.resh_setup.specs.declared.setup.Setup.{Setup}
use Rattle.resh_shard.specs.Writes.{shard_id}
use Rattle.resh_invariant.specs.Keeping.{Keeps}
use Rattle.resh_invariant.specs.Sources.{Clones}
use Rattle.resh_leading.specs.Leading.{LeadsOn}

-- a fetch gets nothing, and the link is near
pub record FetchesNothing (cluster : Cluster) (r d : ℕ) : Type 0 where
  pub may : fetch.may cluster r d ≡ true
  pub nothing : fetch.got cluster r d ≡ []
  pub near : (link_in cluster r d).link.near ≡ true

-- nothing is left to do of a link: it reads nothing, cuts nothing, records nothing, and no lane applies a piece of it
pub record IsIdleLink (setup : Setup) (cluster : Cluster) (r d : ℕ) : Type 0 where
  pub reads : (may_step setup cluster (next_reading setup cluster (shard_id r) (shard_id d)) ≡ false)
      ⊎ FetchesNothing cluster r d
  pub cuts : cut.may cluster r d ≡ false
  pub applies : (l : ℕ) → l < setup.lanes → goes_on setup cluster (shard_id r) (shard_id d) l ≡ false
  pub keeps : keep.may cluster r d ≡ false

-- while the coordinator waits for reports, a recipient of whose links nothing is left to do is ready
abbrev pub IdleLinksAreReady : Type 0
IdleLinksAreReady = (setup : Setup) (state : State) (clones : Clones) (cluster : Cluster) (r : ℕ) → IsValid setup
    → Keeps setup state clones cluster → LeadsOn setup cluster
    → is_waiting cluster.control.phase cluster.control.told ≡ true → r < length setup.shards
    → ((d : ℕ) → d < length setup.shards → IsIdleLink setup cluster r d)
    → are_ready cluster.control.phase (links_of cluster r) ≡ true
