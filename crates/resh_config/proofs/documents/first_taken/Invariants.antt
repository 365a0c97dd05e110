use Rattle.std.proofs.Common.{length}
use Rattle.resh_config.proofs.SamePlaces.{IsPassed}
use Rattle.resh_config.proofs.documents.first_taken.Given as goal

abbrev pub invariant-loop-rest : goal.invariant-loop-rest
invariant-loop-rest l = IsPassed l.map l.fn.documents l.taken l.row l.rest

abbrev pub decreases-loop-rest : goal.decreases-loop-rest
decreases-loop-rest l = length l.rest
