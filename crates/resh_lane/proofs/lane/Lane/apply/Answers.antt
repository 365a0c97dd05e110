use Rattle.std.proofs.Common.{◌≡◌, length, sym, ap, ◌∙◌}
use Rattle.resh_rules.specs.Pools.{PoolOf}
use Rattle.resh_rules.proofs.Giving.{given_acts}
use Rattle.resh_lane.proofs.lane.Lane.apply.Goals as goal

pub invariant_of-self : goal.invariant_of-self
invariant_of-self c =
    let donors : length c.give.new.pool.state.stashes ≡ length c.self.inside.pool.state.stashes =
    ap (λ (p : PoolOf). length p.stashes) c.in-Ok.ensures.state ∙ (given_acts c.self.inside.pool.state c.args.piece.donor.0 c.args.piece.id c.args.piece.what).donors in
    record {
      ats = c.self.invariant.ats ∙ sym donors;
      highs = c.self.invariant.highs ∙ sym donors;
      reached = c.self.invariant.reached;
      small = c.self.invariant.small;
    }
