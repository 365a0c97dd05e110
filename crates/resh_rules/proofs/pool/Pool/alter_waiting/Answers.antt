use Rattle.std.proofs.Common.{◌≤◌, sym, subst}
use Rattle.resh_value.specs.Limits.{end_of_places}
use Rattle.resh_rules.specs.Pools.{pool_of}
use Rattle.resh_rules.specs.Rules.{waiting_changed}
use Rattle.resh_rules.proofs.Giving.{stays_pool}
use Rattle.resh_rules.proofs.Pooling.{acted, sound_inside, waiting_alters}
use Rattle.resh_rules.proofs.pool.Pool.alter_waiting.Goals as goal

pub invariant_of-self-2 : goal.invariant_of-self-2
invariant_of-self-2 c = record {
  pool = stays_pool c.args.id.now (waiting_changed c.args.donor.0 c.args.change.now) (pool_of c.self.inside.chunks c.self.inside.output c.self.inside.stashes.items) _ c.self.invariant.pool
      (waiting_alters c.self.inside.chunks c.args.id.now c.args.change.now c.self.inside.output c.self.inside.stashes.items c.alter_at.new.stashes.items c.args.donor.0 c.in_ok-alter_at.ensures.written)
      (sound_inside c.self.inside.chunks c.self.inside.output c.self.inside.stashes.items c.args.self.now c.self.view_is c.args.id.now (waiting_changed c.args.donor.0 c.args.change.now) c.requires.sound);
  count = subst (λ n. n ≤ end_of_places) (sym c.alter_at.ensures.room.count) c.self.invariant.count;
}

pub returns-clause-acts : goal.returns-clause-acts
returns-clause-acts c =
    acted c.self.inside.chunks c.self.inside.output c.self.inside.stashes.items c.args.self.now c.self.view_is c.args.id.now (waiting_changed c.args.donor.0 c.args.change.now) _
    (waiting_alters c.self.inside.chunks c.args.id.now c.args.change.now c.self.inside.output c.self.inside.stashes.items c.alter_at.new.stashes.items c.args.donor.0 c.in_ok-alter_at.ensures.written)
