use Rattle.std.proofs.Common.{ℕ, ◌∙◌}
use Rattle.std.specs.Prelude.{◌==◌}
use Rattle.resh_versions.specs.Chains.{Document}
use Rattle.resh_chunks.specs.Chunks.{owner_of}
use Rattle.resh_shard.specs.Shards.{with_loaded}
use Rattle.resh_core.proofs.OpeningLaws.{loaded_one}
use Rattle.resh_core.proofs.opening.load.Goals as goal

pub loop-document-preserved : goal.loop-document-preserved
loop-document-preserved c =
    loaded_one with_loaded (λ (d : Document). owner_of c.args.setup.now.old_map d == c.args.number) _ _ _ _ _ c.loop-document-test.true
    c.document-item.is c.in_ok-load_own.ensures ∙ c.loop-document.invariant
