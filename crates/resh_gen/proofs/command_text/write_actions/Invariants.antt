use Rattle.std.proofs.Common.{◌≡◌, ◌++◌, take, filter, flat_map}
use Rattle.resh_gen.specs.CommandTokens.{action_tokens, is_of}
use Rattle.resh_gen.proofs.command_text.write_actions.Given as goal

abbrev pub invariant-loop-action : goal.invariant-loop-action
invariant-loop-action l = record {
  before : l.writer.before ≡ l.initial.writer.before;
  written : l.writer.tokens ≡ l.initial.writer.tokens ++ flat_map action_tokens (filter (is_of l.name) (take l.action-index l.actions));
}
