use Rattle.std.proofs.Common.{subst}
use Rattle.resh_rules.specs.Pools.{PoolOf, Roomy, held_of}
use Rattle.resh_rules.specs.Slots.{IsSound}
use Rattle.resh_rules.proofs.pool.Pool.found.Goals as goal

pub returns-then-waits-clause-sound : goal.returns-then-waits-clause-sound
returns-then-waits-clause-sound c = subst (λ (p : Roomy PoolOf). IsSound p.state.chunks c.args.id.now (held_of p.state c.args.id.now)) c.self.view_is (c.self.invariant.pool.sound c.args.id.now)
