use Rattle.std.proofs.Common.{[], ◌∷◌, ◌++◌, filter, map, ap, sym, ◌∙◌}
use Rattle.resh_bag.specs.Parts.{is_among}
use Rattle.resh_cells.specs.declared.cell.Cell.TheVariants as named
use Rattle.resh_asking.proofs.Listed.{kept_next}
use Rattle.resh_asking.proofs.holding.shard_cells.Goals as goal

pub loop-shard-preserved : goal.loop-shard-preserved
loop-shard-preserved c =
    c.in_ok-add_among.ensures ∙ ap (λ l. l ++ map named.Shard (filter (is_among c.args.shards.now) (c.loop-shard.shard ∷ []))) c.loop-shard.invariant
    ∙ sym (kept_next (is_among c.args.shards.now) named.Shard c.loop-shard.shard)
