use Rattle.std.proofs.Common.{[], ◌∷◌, ◌++◌, ap, sym, ◌∙◌}
use Rattle.resh_asking.proofs.Listed.{range_next}
use Rattle.resh_asking.proofs.targets.all_below.Goals as goal

pub loop-shard-preserved : goal.loop-shard-preserved
loop-shard-preserved c = c.in_ok-push.ensures.items ∙ ap (λ l. l ++ c.loop-shard.shard ∷ []) c.loop-shard.invariant ∙ sym (range_next c.loop-shard.shard)
