use Rattle.std.proofs.Common.{Some, arith}
use Rattle.resh_value.specs.Limits.{end_of_places}
use Rattle.resh_rules.specs.Held.{Held, with_waiting}
use Rattle.resh_rules.specs.Pools.{pool_of, spare_of}
use Rattle.resh_rules.specs.Writes.{count_of}
use Rattle.resh_rules.proofs.Giving.{stays_pool}
use Rattle.resh_rules.proofs.Pooling.{acted, donor_inside, room_is, room_less, sound_inside, waiting_acts}
use Rattle.resh_rules.proofs.Writing.{least_at}
use Rattle.resh_rules.proofs.pool.Pool.put_waiting.Goals as goal

pub put_at-requires-clause-within : goal.put_at-requires-clause-within
put_at-requires-clause-within c = donor_inside c.self.inside.chunks c.self.inside.output c.self.inside.stashes.items c.args.self.now c.self.view_is c.args.donor.0 c.requires.donor

pub put_at-requires-clause-room : goal.put_at-requires-clause-room
put_at-requires-clause-room c default =
    let room = room_is c.self.inside.chunks c.self.inside.output c.self.inside.stashes.items c.args.self.now c.self.view_is in
    let within = donor_inside c.self.inside.chunks c.self.inside.output c.self.inside.stashes.items c.args.self.now c.self.view_is c.args.donor.0 c.requires.donor in
    let least = least_at c.self.inside.output c.self.inside.stashes.items c.args.donor.0 default within in
    omega (arith, room, least, c.requires.room)

pub invariant_of-self : goal.invariant_of-self
invariant_of-self c =
    let step : Held → Held = λ held. with_waiting held c.args.donor.0 (Some c.args.document) in
    let room = room_is c.self.inside.chunks c.self.inside.output c.self.inside.stashes.items c.args.self.now c.self.view_is in
    record {
      pool = stays_pool c.args.id step (pool_of c.self.inside.chunks c.self.inside.output c.self.inside.stashes.items) _ c.self.invariant.pool
          (waiting_acts c.self.inside.chunks c.args.id (Some c.args.document) c.self.inside.output c.self.inside.stashes.items c.put_at.new.stashes.items c.args.donor.0 c.put_at.ensures.written)
          (sound_inside c.self.inside.chunks c.self.inside.output c.self.inside.stashes.items c.args.self.now c.self.view_is c.args.id step c.requires.sound);
      count = omega (arith, room, c.requires.room, c.put_at.ensures.count);
    }

pub returns-clause-acts : goal.returns-clause-acts
returns-clause-acts c =
    acted c.self.inside.chunks c.self.inside.output c.self.inside.stashes.items c.args.self.now c.self.view_is c.args.id (λ held. with_waiting held c.args.donor.0 (Some c.args.document)) _
    (waiting_acts c.self.inside.chunks c.args.id (Some c.args.document) c.self.inside.output c.self.inside.stashes.items c.put_at.new.stashes.items c.args.donor.0 c.put_at.ensures.written)

pub returns-clause-spare : goal.returns-clause-spare
returns-clause-spare c =
    let room = room_is c.self.inside.chunks c.self.inside.output c.self.inside.stashes.items c.args.self.now c.self.view_is in
    let left = room_less end_of_places (spare_of c.self.inside.output c.self.inside.stashes.items) (spare_of c.self.inside.output c.put_at.new.stashes.items) (count_of c.self.inside.stashes.items) (count_of c.put_at.new.stashes.items) 1 (c.put_at.ensures.spare c.self.inside.output) c.put_at.ensures.count in
    omega (arith, room, left)
