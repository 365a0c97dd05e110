use Rattle.std.proofs.Common.{sym, ◌∙◌}
use Rattle.resh_rules.proofs.Giving.{rising_change}
use Rattle.resh_rules.proofs.pool.Pool.may_change.Goals as goal

pub returns : goal.returns
returns c = c.names_others.ensures.value ∙ sym (rising_change c.args.self.now.state.chunks c.args.change.now c.names_others.ensures.rising)
