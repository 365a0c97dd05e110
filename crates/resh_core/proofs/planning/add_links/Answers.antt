use Rattle.std.proofs.Common.{ℕ, [], ◌∷◌}
use Rattle.resh_luck.specs.Fates.{no_calls}
use Rattle.resh_shard.specs.Writes.{shard_id}
use Rattle.resh_setup.specs.declared.plan.Who.TheVariants.{Link}
use Rattle.resh_events.specs.Lucks.{rows_of}
use Rattle.resh_core.proofs.ListLaws.{flat_more}
use Rattle.resh_core.proofs.PlanLaws.{one_told}
use Rattle.resh_core.proofs.planning.add_links.Goals as goal

pub loop-donor-preserved : goal.loop-donor-preserved
loop-donor-preserved c =
    one_told _ _ _ _ _ _ _ c.loop-donor.invariant c.in_ok-push.ensures.items c.in_ok-luck_of.ensures
    (flat_more (λ (d : ℕ). no_calls (rows_of c.args.setup.now (Link (shard_id c.args.recipient) (shard_id d))) ∷ []) c.loop-donor.donor)
