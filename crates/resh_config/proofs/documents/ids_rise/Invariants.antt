use Rattle.std.proofs.Common.{length}
use Rattle.resh_config.specs.Documents.{IdsRise}
use Rattle.resh_config.proofs.documents.ids_rise.Given as goal

abbrev pub invariant-loop-rest : goal.invariant-loop-rest
invariant-loop-rest l = IdsRise l.rest → IdsRise l.fn.documents

abbrev pub decreases-loop-rest : goal.decreases-loop-rest
decreases-loop-rest l = length l.rest
