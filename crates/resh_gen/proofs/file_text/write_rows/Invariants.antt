use Rattle.std.proofs.Common.{◌≡◌, ◌++◌, take, map, flat_map}
use Rattle.resh_gen.specs.SetupText.{chunk_tokens}
use Rattle.resh_gen.proofs.file_text.write_rows.Given as goal

abbrev pub invariant-loop-row : goal.invariant-loop-row
invariant-loop-row l = record {
  before : l.writer.before ≡ l.initial.writer.before;
  written : l.writer.tokens ≡ l.initial.writer.tokens ++ flat_map (λ ts. ts) (map (chunk_tokens l.shards) (take l.row-index l.rows));
}
