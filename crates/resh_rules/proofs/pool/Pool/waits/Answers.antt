use Rattle.std.proofs.Common.{is_some, ap, ◌∙◌}
use Rattle.resh_rules.specs.Held.{waits}
use Rattle.resh_rules.specs.Pools.{PoolOf, held_of}
use Rattle.resh_rules.proofs.Pooling.{copied_some, donor_inside, state_is}
use Rattle.resh_rules.proofs.Writing.{waits_at}
use Rattle.resh_rules.proofs.pool.Pool.waits.Goals as goal

pub returns : goal.returns
returns c =
    let within = donor_inside c.self.inside.chunks c.self.inside.output c.self.inside.stashes.items c.args.self.now c.self.view_is c.args.donor.0 c.requires in
    c.is_some.ensures ∙ copied_some c.get.result ∙ ap is_some (c.get.ensures ∙ waits_at c.self.inside.stashes.items c.args.donor.0 c.index.result.now c.args.id.now within c.index.ensures)
    ∙ ap (λ (p : PoolOf). is_some (waits (held_of p c.args.id.now) c.args.donor.0)) (state_is c.self.inside.chunks c.self.inside.output c.self.inside.stashes.items c.args.self.now c.self.view_is)
