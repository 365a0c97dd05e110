use Rattle.std.proofs.Common.{◌≡◌, ◌++◌, take, map, flat_map}
use Rattle.resh_value.specs.Text.{tokens_of}
use Rattle.resh_gen.proofs.file_text.write_values.Given as goal

abbrev pub invariant-loop-value : goal.invariant-loop-value
invariant-loop-value l = record {
  before : l.writer.before ≡ l.initial.writer.before;
  written : l.writer.tokens ≡ l.initial.writer.tokens ++ flat_map (λ ts. ts) (map tokens_of (take l.value-index l.value-items));
}
