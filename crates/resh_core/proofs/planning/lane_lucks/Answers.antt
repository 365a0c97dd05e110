use Rattle.std.proofs.Common.{ℕ}
use Rattle.resh_core.specs.Planning.{lane_row}
use Rattle.resh_core.proofs.ListLaws.{flat_more}
use Rattle.resh_core.proofs.PlanLaws.{rows_told}
use Rattle.resh_core.proofs.planning.lane_lucks.Goals as goal

pub loop-recipient-preserved : goal.loop-recipient-preserved
loop-recipient-preserved c =
    rows_told _ _ _ _ _ c.loop-recipient.invariant c.in_ok-add_lane_rows.ensures
    (flat_more (λ (r : ℕ). lane_row c.args.setup.now r c.args.shards) c.loop-recipient.recipient)
