use Rattle.std.proofs.Common.{◌≡◌, drop, filter}
use Rattle.std.specs.List.{fold}
use Rattle.std.specs.Prelude.{◌==◌}
use Rattle.resh_chunks.specs.Chunks.{owner_of}
use Rattle.resh_shard.specs.Shards.{with_loaded}
use Rattle.resh_core.proofs.opening.load.Given as goal

abbrev pub invariant-loop-document : goal.invariant-loop-document
invariant-loop-document l =
    fold with_loaded l.shard (filter (λ d. owner_of l.setup.old_map d == l.number) (drop l.document-index l.document-items))
    ≡ fold with_loaded l.initial.shard (filter (λ d. owner_of l.setup.old_map d == l.number) l.setup.documents)
