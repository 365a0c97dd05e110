use Rattle.std.proofs.Common.{rules, arith}
use Rattle.resh_turn.proofs.Numbering.{pushed}
use Rattle.resh_turn.proofs.cell.TurnCell.all_passes.Goals as goal

pub loop-number-preserved : goal.loop-number-preserved
loop-number-preserved g c =
    let l = c.loop-number.invariant in
    let less = c.loop-number-test.true in
    (omega arith, omega arith, search rules, search rules, pushed c.args.self.now c.loop-number.number _ _ _ l.0 c.in_ok-push.ensures.items c.another.ensures.pass l.4)
