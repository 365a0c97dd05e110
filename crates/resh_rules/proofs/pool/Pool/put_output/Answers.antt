use Rattle.std.proofs.Common.{Some, arith}
use Rattle.resh_value.specs.Limits.{end_of_places}
use Rattle.resh_rules.specs.Held.{Held, with_output}
use Rattle.resh_rules.specs.Pools.{pool_of, spare_of}
use Rattle.resh_rules.specs.Writes.{count_of}
use Rattle.resh_rules.proofs.Giving.{stays_pool}
use Rattle.resh_rules.proofs.Pooling.{acted, output_acts, room_is, room_less, sound_inside}
use Rattle.resh_rules.proofs.Writing.{least_output, lowered_output}
use Rattle.resh_rules.proofs.pool.Pool.put_output.Goals as goal

pub put-requires : goal.put-requires
put-requires c =
    let room = room_is c.self.inside.chunks c.self.inside.output c.self.inside.stashes.items c.args.self.now c.self.view_is in
    let least = least_output c.self.inside.output c.self.inside.stashes.items in
    omega (arith, room, least, c.requires.room)

pub invariant_of-self : goal.invariant_of-self
invariant_of-self c =
    let step : Held → Held = λ held. with_output held (Some c.args.document) in
    record {
      pool = stays_pool c.args.id step (pool_of c.self.inside.chunks c.self.inside.output c.self.inside.stashes.items) _ c.self.invariant.pool
          (output_acts c.self.inside.chunks c.args.id (Some c.args.document) c.self.inside.output c.put.new.stash c.self.inside.stashes.items c.put.ensures.written)
          (sound_inside c.self.inside.chunks c.self.inside.output c.self.inside.stashes.items c.args.self.now c.self.view_is c.args.id step c.requires.sound);
      count = c.self.invariant.count;
    }

pub returns-clause-acts : goal.returns-clause-acts
returns-clause-acts c =
    acted c.self.inside.chunks c.self.inside.output c.self.inside.stashes.items c.args.self.now c.self.view_is c.args.id (λ held. with_output held (Some c.args.document)) _
    (output_acts c.self.inside.chunks c.args.id (Some c.args.document) c.self.inside.output c.put.new.stash c.self.inside.stashes.items c.put.ensures.written)

pub returns-clause-spare : goal.returns-clause-spare
returns-clause-spare c =
    let room = room_is c.self.inside.chunks c.self.inside.output c.self.inside.stashes.items c.args.self.now c.self.view_is in
    let less = lowered_output c.self.inside.output c.put.new.stash c.self.inside.stashes.items 1 c.put.ensures.spare in
    let left = room_less end_of_places (spare_of c.self.inside.output c.self.inside.stashes.items) (spare_of c.put.new.stash c.self.inside.stashes.items) (count_of c.self.inside.stashes.items) (count_of c.self.inside.stashes.items) 1 less (omega arith) in
    omega (arith, room, left)
