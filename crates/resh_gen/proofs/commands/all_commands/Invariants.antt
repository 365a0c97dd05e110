use Rattle.std.proofs.Common.{◌≡◌, ◌*◌}
use Rattle.resh_gen.specs.Commands.{first_commands}
use Rattle.resh_gen.specs.Streams.{Stands}
use Rattle.resh_gen.proofs.commands.all_commands.Given as goal

abbrev pub invariant-loop-turn : goal.invariant-loop-turn
invariant-loop-turn l = record {
  stands : Stands l.number l.streams;
  index : l.streams.index ≡ 4 * l._turn;
  first : l.first.items ≡ first_commands l.number 0 l._turn;
  second : l.second.items ≡ first_commands l.number 1 l._turn;
  third : l.third.items ≡ first_commands l.number 2 l._turn;
  fourth : l.fourth.items ≡ first_commands l.number 3 l._turn;
}
