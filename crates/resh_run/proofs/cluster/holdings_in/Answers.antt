use Rattle.std.proofs.Common.{List, [], ◌∷◌, ◌++◌, ap, ◌∙◌}
use Rattle.resh_shard.specs.Shards.{documents_of}
use Rattle.resh_shard.specs.declared.shard.Shard.{Shard}
use Rattle.resh_cells.specs.declared.cluster.ShardCell.{ShardCell}
use Rattle.resh_run.proofs.Taken.{all_read, on_map, one_more}
use Rattle.resh_run.proofs.cluster.holdings_in.Goals as goal

pub loop-place-preserved : goal.loop-place-preserved
loop-place-preserved c =
    one_more (λ (cell : ShardCell). documents_of cell.shard) c.loop-place.place _ _ _ (documents_of c.in-Some.shard.now) c.loop-place.invariant
    (on_map (λ (cell : ShardCell). cell.shard) documents_of _ _ c.in-Some.ensures)
    (c.in_ok-push-in-Some.ensures.items ∙ ap (λ r. c.loop-place.holdings.items ++ r ∷ []) c.in_ok-held-in-Some.ensures)

pub returns-in-None : goal.returns-in-None
returns-in-None c =
    c.from_vec.ensures
    ∙ all_read (λ (cell : ShardCell). documents_of cell.shard) c.loop-place.place _ _ c.loop-place.invariant (on_map (λ (cell : ShardCell). cell.shard) documents_of _ _ c.in-None.ensures)
