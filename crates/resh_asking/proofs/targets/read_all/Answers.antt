use Rattle.std.proofs.Common.{◌≡◌, ◌||◌, subst, ◌∙◌}
use Rattle.std.specs.Prelude.{IfSome}
use Rattle.resh_router.specs.Merging.{are_counted, are_found}
use Rattle.resh_cells.specs.Cells.{shard_in}
use Rattle.resh_asking.specs.Gathered.{own_parts}
use Rattle.resh_asking.proofs.Readings.{one_kind}
use Rattle.resh_asking.proofs.targets.read_all.Goals as goal

pub merged-requires : goal.merged-requires
merged-requires c =
    let are = subst (λ o. IfSome o (λ parts. parts.items ≡ own_parts c.args.cluster.now c.args.command.now c.args.shards.now)) c.in-Some.is c.in_ok-found.ensures.parts in
    (λ i. are_found (are i) || are_counted (are i)) ∙ one_kind (λ s. (shard_in c.args.cluster.now s).shard) c.args.command.now c.args.shards.now c.requires
