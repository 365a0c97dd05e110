use Rattle.std.proofs.Common.{◌∙◌, arith}
use Rattle.resh_gen.proofs.Places.{commands_none, commands_pushed}
use Rattle.resh_gen.proofs.commands.all_commands.Goals as goal

pub loop-turn-init : goal.loop-turn-init
loop-turn-init c = record {
  stands = c.new-streams.ensures.stands;
  index = c.new-streams.ensures.index;
  first = c.in_ok-first.ensures.items ∙ commands_none c.args.number 0;
  second = c.in_ok-second.ensures.items ∙ commands_none c.args.number 1;
  third = c.in_ok-third.ensures.items ∙ commands_none c.args.number 2;
  fourth = c.in_ok-fourth.ensures.items ∙ commands_none c.args.number 3;
}

pub loop-turn-preserved : goal.loop-turn-preserved
loop-turn-preserved c =
    let number = c.args.number in
    let turn = c.loop-turn._turn in
    let at = c.loop-turn.invariant.index in
    let second_at = c.push_next.ensures.index in
    let third_at = c.push_next-in-loop-turn.ensures.index in
    let fourth_at = c.push_next-in-loop-turn-2.ensures.index in
    let next_at = c.push_next-in-loop-turn-3.ensures.index in
    record {
      stands = c.push_next-in-loop-turn-3.ensures.stands;
      index = omega (arith, at, second_at, third_at, fourth_at, next_at);
      first = commands_pushed number 0 turn _ _ _ c.loop-turn.invariant.first (omega (arith, at)) c.in_ok-push_next.ensures.commands;
      second = commands_pushed number 1 turn _ _ _ c.loop-turn.invariant.second (omega (arith, at, second_at)) c.in_ok-push_next-2.ensures.commands;
      third = commands_pushed number 2 turn _ _ _ c.loop-turn.invariant.third (omega (arith, at, second_at, third_at)) c.in_ok-push_next-3.ensures.commands;
      fourth = commands_pushed number 3 turn _ _ _ c.loop-turn.invariant.fourth (omega (arith, at, second_at, third_at, fourth_at)) c.in_ok-push_next-4.ensures.commands;
    }
