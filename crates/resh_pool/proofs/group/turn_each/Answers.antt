use Rattle.std.proofs.Common.{arith}
use Rattle.resh_pool.proofs.Turns.{turned_by_place}
use Rattle.resh_pool.proofs.group.turn_each.Goals as goal

pub returns : goal.returns
returns g c =
    let inv = c.loop-place.invariant in
    turned_by_place g.J.Job.turned c.args.first _ _ inv.len (λ k d l. inv.made k d (omega arith))
