use Rattle.std.proofs.Common.{sym, ◌∙◌}
use Rattle.resh_shard.proofs.Held.{held_here}
use Rattle.resh_shard.proofs.reading.held.Goals as goal

pub returns-clause-held : goal.returns-clause-held
returns-clause-held c =
    c.now.ensures.now ∙ sym (held_here c.args.state.now.versions c.floor-floor.ensures.filed c.args.state.now.log.donor.0 c.args.id.now)
