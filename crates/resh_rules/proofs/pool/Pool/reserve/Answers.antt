use Rattle.std.proofs.Common.{arith, ap}
use Rattle.resh_value.specs.Limits.{end_of_places}
use Rattle.resh_rules.specs.Pools.{spare_of, stashed}
use Rattle.resh_rules.specs.Writes.{count_of}
use Rattle.resh_rules.proofs.Pooling.{room_is, room_less}
use Rattle.resh_rules.proofs.Upkeeping.{failed, have_room, spare_more, spare_within}
use Rattle.resh_rules.proofs.pool.Pool.reserve.Goals as goal

pub returns-in_err-reserve-clause-succeeds : goal.returns-in_err-reserve-clause-succeeds
returns-in_err-reserve-clause-succeeds c enough =
    let before = room_is c.self.inside.chunks c.self.inside.output c.self.inside.stashes.items c.args.self.now c.self.view_is in
    let within = spare_within c.self.inside.output c.self.inside.stashes.items in
    failed _ c.reserve.result _ c.in_err-reserve.was (c.reserve.ensures.succeeds (omega (arith, enough, before, within)))

pub returns-clause-succeeds : goal.returns-clause-succeeds
returns-clause-succeeds c enough =
    let before = room_is c.self.inside.chunks c.self.inside.output c.self.inside.stashes.items c.args.self.now c.self.view_is in
    c.reserve_all.ensures.succeeds (have_room c.args.n c.self.inside.output c.self.inside.stashes.items (omega (arith, enough, before)))

pub returns-clause-spare : goal.returns-clause-spare
returns-clause-spare c =
    let before = room_is c.self.inside.chunks c.self.inside.output c.self.inside.stashes.items c.args.self.now c.self.view_is in
    let stashes = c.reserve_all.ensures.spare c.self.inside.output in
    let output = spare_more c.self.inside.output c.reserve.new.self c.reserve_all.new.stashes.items c.reserve.ensures.spare in
    let same = ap stashed c.reserve_all.ensures.kept in
    let left = room_less end_of_places (spare_of c.self.inside.output c.self.inside.stashes.items) (spare_of c.reserve.new.self c.reserve_all.new.stashes.items) (count_of c.self.inside.stashes.items) (count_of c.reserve_all.new.stashes.items) 0 (omega (arith, stashes, output)) (omega (arith, same)) in
    omega (arith, before, left)
