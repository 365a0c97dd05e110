use Rattle.std.proofs.Common.{◌≡◌}
use Rattle.resh_router.specs.Merging.{documents_of}
use Rattle.resh_router.proofs.shown.documents_in.Given as goal

abbrev pub invariant-loop-one : goal.invariant-loop-one
invariant-loop-one l = l.documents.items ≡ documents_of l.yielded
