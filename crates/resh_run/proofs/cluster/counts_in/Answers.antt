use Rattle.std.proofs.Common.{List, [], ◌∷◌, ◌++◌, length, ap, ◌∙◌}
use Rattle.resh_shard.specs.Shards.{documents_of}
use Rattle.resh_shard.specs.declared.shard.Shard.{Shard}
use Rattle.resh_cells.specs.declared.cluster.ShardCell.{ShardCell}
use Rattle.resh_run.proofs.Taken.{all_read, on_map, one_more}
use Rattle.resh_run.proofs.cluster.counts_in.Goals as goal

pub loop-place-preserved : goal.loop-place-preserved
loop-place-preserved c =
    one_more (λ (cell : ShardCell). length (documents_of cell.shard)) c.loop-place.place _ _ _ (length (documents_of c.in-Some.shard.now)) c.loop-place.invariant
    (on_map (λ (cell : ShardCell). cell.shard) (λ (shard : Shard). length (documents_of shard)) _ _ c.in-Some.ensures)
    (c.in_ok-push-in-Some.ensures.items ∙ ap (λ n. c.loop-place.counts.items ++ n ∷ []) c.in_ok-count-in-Some.ensures)

pub returns-in-None : goal.returns-in-None
returns-in-None c =
    all_read (λ (cell : ShardCell). length (documents_of cell.shard)) c.loop-place.place _ _ c.loop-place.invariant
    (on_map (λ (cell : ShardCell). cell.shard) (λ (shard : Shard). length (documents_of shard)) _ _ c.in-None.ensures)
