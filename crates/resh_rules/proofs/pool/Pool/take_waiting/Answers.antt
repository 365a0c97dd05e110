use Rattle.std.proofs.Common.{None, arith}
use Rattle.resh_value.specs.Limits.{end_of_places}
use Rattle.resh_rules.specs.Held.{Held, with_waiting}
use Rattle.resh_rules.specs.Pools.{pool_of, spare_of}
use Rattle.resh_rules.specs.Writes.{count_of}
use Rattle.resh_rules.proofs.Giving.{stays_pool}
use Rattle.resh_rules.proofs.Pooling.{acted, donor_inside, room_is, room_less, sound_inside, waiting_acts}
use Rattle.resh_rules.proofs.pool.Pool.take_waiting.Goals as goal

pub take_at-requires-clause-within : goal.take_at-requires-clause-within
take_at-requires-clause-within c = donor_inside c.self.inside.chunks c.self.inside.output c.self.inside.stashes.items c.args.self.now c.self.view_is c.args.donor.0 c.requires.donor

pub invariant_of-self : goal.invariant_of-self
invariant_of-self c =
    let step : Held → Held = λ held. with_waiting held c.args.donor.0 None in
    record {
      pool = stays_pool c.args.id.now step (pool_of c.self.inside.chunks c.self.inside.output c.self.inside.stashes.items) _ c.self.invariant.pool
          (waiting_acts c.self.inside.chunks c.args.id.now None c.self.inside.output c.self.inside.stashes.items c.take_at.new.stashes.items c.args.donor.0 c.take_at.ensures.written)
          (sound_inside c.self.inside.chunks c.self.inside.output c.self.inside.stashes.items c.args.self.now c.self.view_is c.args.id.now step c.requires.sound);
      count = omega (arith, c.self.invariant.count, c.take_at.ensures.count);
    }

pub returns-clause-acts : goal.returns-clause-acts
returns-clause-acts c =
    acted c.self.inside.chunks c.self.inside.output c.self.inside.stashes.items c.args.self.now c.self.view_is c.args.id.now (λ held. with_waiting held c.args.donor.0 None) _
    (waiting_acts c.self.inside.chunks c.args.id.now None c.self.inside.output c.self.inside.stashes.items c.take_at.new.stashes.items c.args.donor.0 c.take_at.ensures.written)

pub returns-clause-spare : goal.returns-clause-spare
returns-clause-spare c =
    let room = room_is c.self.inside.chunks c.self.inside.output c.self.inside.stashes.items c.args.self.now c.self.view_is in
    let more = c.take_at.ensures.spare c.self.inside.output in
    let left = room_less end_of_places (spare_of c.self.inside.output c.self.inside.stashes.items) (spare_of c.self.inside.output c.take_at.new.stashes.items) (count_of c.self.inside.stashes.items) (count_of c.take_at.new.stashes.items) 0 (omega (arith, more)) (omega (arith, c.take_at.ensures.count)) in
    omega (arith, room, left)
