use Rattle.resh_rules.specs.Pools.{pool_of}
use Rattle.resh_rules.specs.Rules.{output_changed}
use Rattle.resh_rules.proofs.Giving.{stays_pool}
use Rattle.resh_rules.proofs.Pooling.{acted, output_alters, sound_inside}
use Rattle.resh_rules.proofs.pool.Pool.alter_output.Goals as goal

pub invariant_of-self-2 : goal.invariant_of-self-2
invariant_of-self-2 c = record {
  pool = stays_pool c.args.id.now (output_changed c.args.change.now) (pool_of c.self.inside.chunks c.self.inside.output c.self.inside.stashes.items) _ c.self.invariant.pool
      (output_alters c.self.inside.chunks c.args.id.now c.args.change.now c.self.inside.output c.alter.new.stash c.self.inside.stashes.items c.in_ok-alter.ensures.written)
      (sound_inside c.self.inside.chunks c.self.inside.output c.self.inside.stashes.items c.args.self.now c.self.view_is c.args.id.now (output_changed c.args.change.now) c.requires.sound);
  count = c.self.invariant.count;
}

pub returns-clause-acts : goal.returns-clause-acts
returns-clause-acts c =
    acted c.self.inside.chunks c.self.inside.output c.self.inside.stashes.items c.args.self.now c.self.view_is c.args.id.now (output_changed c.args.change.now) _
    (output_alters c.self.inside.chunks c.args.id.now c.args.change.now c.self.inside.output c.alter.new.stash c.self.inside.stashes.items c.in_ok-alter.ensures.written)
