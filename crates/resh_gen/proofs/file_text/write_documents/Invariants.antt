use Rattle.std.proofs.Common.{◌≡◌, ◌++◌, take, map, flat_map}
use Rattle.resh_value.specs.Text.{document_tokens}
use Rattle.resh_gen.proofs.file_text.write_documents.Given as goal

abbrev pub invariant-loop-document : goal.invariant-loop-document
invariant-loop-document l = record {
  before : l.writer.before ≡ l.initial.writer.before;
  written : l.writer.tokens ≡ l.initial.writer.tokens ++ flat_map (λ ts. ts) (map document_tokens (take l.document-index l.document-items));
}
