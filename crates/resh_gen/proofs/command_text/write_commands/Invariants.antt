use Rattle.std.proofs.Common.{◌≡◌, ◌++◌, take, map, flat_map}
use Rattle.resh_gen.specs.CommandTokens.{command_tokens}
use Rattle.resh_gen.proofs.command_text.write_commands.Given as goal

abbrev pub invariant-loop-command : goal.invariant-loop-command
invariant-loop-command l = record {
  before : l.writer.before ≡ l.initial.writer.before;
  written : l.writer.tokens ≡ l.initial.writer.tokens ++ flat_map (λ ts. ts) (map command_tokens (take l.command-index l.command-items));
}
