-- The rows of the coordinator keep the invariant. Clocks come beside them.
use Rattle.std.specs.Prelude.{◌≡◌, ℕ, Bool, true, false, Option, Some, None}
use Rattle.resh_cells.specs.declared.cluster.Cluster.{Cluster}
use Rattle.resh_coord.specs.Control.{aborted}
use Rattle.resh_coord.specs.declared.cause.Cause.{Cause}
use Rattle.resh_coord.specs.declared.cause.End.{End}
use Rattle.resh_coord.specs.declared.phase.Phase.{Phase}
use Rattle.resh_coord.specs.declared.phase.Phase.TheVariants as phase
use Rattle.resh_events.specs.rows.Advance as advance
use Rattle.resh_events.specs.rows.Begin as begin
use Rattle.resh_events.specs.rows.Fail as fail
use Rattle.resh_events.specs.rows.Report as report
use Rattle.resh_model.specs.Orders.{State, dropped}
use Rattle.resh_setup.specs.declared.setup.Setup.{Setup}
use Rattle.resh_stamp.specs.declared.stamp.Stamp.{Stamp}
use Rattle.resh_invariant.specs.Keeping.{Keeps}
use Rattle.resh_invariant.specs.Sources.{Clones}

-- the phases whose end decides neither the fetch time nor the mark
abbrev pub is_plain : Phase → Bool
is_plain phase.Cloning = true
is_plain phase.Applying = true
is_plain phase.Committing = true
is_plain phase.Aborting = true
is_plain other = false

-- what a failure leaves of the order: a drop, where nothing was decided
abbrev pub after_failure : Option End → Cause → State → State
after_failure None cause state = dropped cause state
after_failure (Some end) cause state = state

pub record ControlRowsKeep : Type 0 where
  pub begin : (setup : Setup) (state : State) (clones : Clones) (cluster : Cluster)
      → Keeps setup state clones cluster → begin.may cluster ≡ true → Keeps setup state clones (begin.change cluster)
  -- where it leaves such a phase
  pub advance : (setup : Setup) (state : State) (clones : Clones) (cluster : Cluster) (stamp : Stamp)
      → Keeps setup state clones cluster → advance.may cluster ≡ true → is_plain cluster.control.phase ≡ true
      → Keeps setup state clones (advance.change stamp cluster)
  -- a report, in every phase
  pub report : (setup : Setup) (state : State) (clones : Clones) (cluster : Cluster) (r : ℕ)
      → Keeps setup state clones cluster → report.may cluster r ≡ true
      → Keeps setup state clones (report.change cluster r)
  -- a failure, at any time
  pub fail : (setup : Setup) (state : State) (clones : Clones) (cluster : Cluster) (named : Option fail.Link)
      (cause : Cause)
      → Keeps setup state clones cluster
      → Keeps setup (after_failure cluster.control.decision cause state) clones (fail.change cluster named cause)
  -- the operation is dropped, as for an abort that is accepted
  pub drop : (setup : Setup) (state : State) (clones : Clones) (cluster : Cluster) (cause : Cause)
      → Keeps setup state clones cluster → cluster.control.decision ≡ None
      → Keeps setup (dropped cause state) clones (record cluster { control = aborted cause cluster.control })
