use Rattle.std.proofs.Common.{ℕ}
use Rattle.resh_luck.specs.Fates.{no_calls}
use Rattle.resh_setup.specs.declared.plan.Who.TheVariants.{Lane}
use Rattle.resh_events.specs.Lucks.{rows_of}
use Rattle.resh_core.proofs.ListLaws.{each_more}
use Rattle.resh_core.proofs.PlanLaws.{one_told}
use Rattle.resh_core.proofs.planning.add_lanes.Goals as goal

pub loop-lane-preserved : goal.loop-lane-preserved
loop-lane-preserved c =
    one_told _ _ _ _ _ _ _ c.loop-lane.invariant c.in_ok-push.ensures.items c.in_ok-luck_of.ensures
    (each_more (λ (l : ℕ). no_calls (rows_of c.args.setup.now (Lane c.args.recipient c.args.donor l))) c.loop-lane.lane)
