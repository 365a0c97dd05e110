use Rattle.std.proofs.Common.{◌≡◌, ◌*◌}
use Rattle.resh_gen.specs.Draws.{state_at}
use Rattle.resh_gen.specs.Documents.{first_documents}
use Rattle.resh_gen.proofs.documents.first_documents.Given as goal

abbrev pub invariant-loop-index : goal.invariant-loop-index
invariant-loop-index l = record {
  made : l.documents.items ≡ first_documents l.initial.draws.state l.index;
  drawn : l.draws.state ≡ state_at l.initial.draws.state (2 * l.index);
}
