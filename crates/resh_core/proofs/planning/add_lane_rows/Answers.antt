use Rattle.std.proofs.Common.{ℕ}
use Rattle.resh_shard.specs.Writes.{shard_id}
use Rattle.resh_core.specs.Planning.{lane_list}
use Rattle.resh_core.proofs.ListLaws.{flat_more}
use Rattle.resh_core.proofs.PlanLaws.{more_told}
use Rattle.resh_core.proofs.planning.add_lane_rows.Goals as goal

pub loop-donor-preserved : goal.loop-donor-preserved
loop-donor-preserved c =
    more_told _ _ _ _ _ _ c.loop-donor.invariant c.in_ok-add_lanes.ensures
    (flat_more (λ (d : ℕ). lane_list c.args.setup.now (shard_id c.args.recipient) (shard_id d) c.args.setup.now.lanes) c.loop-donor.donor)
