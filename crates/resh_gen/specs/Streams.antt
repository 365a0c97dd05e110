-- Where the numbers stand from which commands are made.
use Rattle.std.specs.Prelude.{◌≡◌, ℕ, ◌+◌, ◌*◌}
use Rattle.resh_gen.specs.Draws.{state_at}
use Rattle.resh_gen.specs.Commands.{first_commands}
use Rattle.resh_gen.specs.declared.commands.Asked.{Asked}
use Rattle.resh_gen.specs.declared.commands.Streams.{Streams}

-- before the numbers of the next command, and before those of the document that it may name
pub record Stands (number : ℕ) (streams : Streams) : Type 0 where
  pub keys : streams.keys.state ≡ state_at number (2 * streams.index)
  pub choices : streams.choices.state ≡ state_at number (100000 + 2 * streams.index)

-- the first so many commands of each client
pub record AreAsked (number turns : ℕ) (asked : Asked) : Type 0 where
  pub first : asked.first ≡ first_commands number 0 turns
  pub second : asked.second ≡ first_commands number 1 turns
  pub third : asked.third ≡ first_commands number 2 turns
  pub fourth : asked.fourth ≡ first_commands number 3 turns
