use Rattle.std.proofs.Common.{◌≡◌, ◌++◌, take, map, flat_map}
use Rattle.resh_gen.specs.SetupText.{client_tokens}
use Rattle.resh_gen.proofs.file_text.write_clients.Given as goal

abbrev pub invariant-loop-client : goal.invariant-loop-client
invariant-loop-client l = record {
  before : l.writer.before ≡ l.initial.writer.before;
  written : l.writer.tokens ≡ l.initial.writer.tokens ++ flat_map (λ ts. ts) (map client_tokens (take l.client-index l.client-items));
}
