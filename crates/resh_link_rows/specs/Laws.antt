-- The rows of links keep the invariant. Clocks come beside them.
use Rattle.std.specs.Prelude.{◌≡◌, ℕ, true}
use Rattle.resh_cells.specs.Cells.{link_in}
use Rattle.resh_cells.specs.declared.cluster.Cluster.{Cluster}
use Rattle.resh_events.specs.rows.Clone as clone
use Rattle.resh_events.specs.rows.Cut as cut
use Rattle.resh_events.specs.rows.Cut.{batch_at}
use Rattle.resh_events.specs.rows.Fetch as fetch
use Rattle.resh_events.specs.rows.Record as keep
use Rattle.resh_model.specs.Orders.{State}
use Rattle.resh_setup.specs.Validity.{IsValid}
use Rattle.resh_setup.specs.declared.setup.Setup.{Setup}
use Rattle.resh_split.specs.Parts.{is_below_end}
use Rattle.resh_stamp.specs.declared.stamp.Stamp.{Stamp}
use Rattle.resh_invariant.specs.Keeping.{Keeps}
use Rattle.resh_invariant.specs.Sources.{Clones}

pub record LinkRowsKeep : Type 0 where
  pub clone : (setup : Setup) (state : State) (clones : Clones) (cluster : Cluster) (r d : ℕ)
      → Keeps setup state clones cluster → clone.may cluster r d ≡ true
      → Keeps setup state clones (clone.change cluster r d)
  pub fetch : (setup : Setup) (state : State) (clones : Clones) (cluster : Cluster) (r d : ℕ)
      → Keeps setup state clones cluster → fetch.may cluster r d ≡ true
      → Keeps setup state clones (fetch.change cluster r d)
  -- a batch whose places and positions have an end
  pub cut : (setup : Setup) (state : State) (clones : Clones) (cluster : Cluster) (r d : ℕ) (stamp : Stamp)
      → IsValid setup → Keeps setup state clones cluster → cut.may cluster r d ≡ true
      → is_below_end (link_in cluster r d).link.lanes (batch_at 0 (link_in cluster r d).link) ≡ true
      → Keeps setup state clones (cut.change cluster r d stamp)
  pub record_kept : (setup : Setup) (state : State) (clones : Clones) (cluster : Cluster) (r d : ℕ)
      → Keeps setup state clones cluster → keep.may cluster r d ≡ true
      → Keeps setup state clones (keep.change cluster r d)
