use Rattle.std.proofs.Common.{◌≡◌, ◌∙◌, ◌<◌, ◌++◌, ◌∷◌, [], ap, length, arith, rules}
use Rattle.resh_model.proofs.placing.HandedOut.{handed_length, handed_more, next_known}
use Rattle.resh_model.proofs.seat.hand_out.Goals as goal

pub index_mut-part-requires : goal.index_mut-part-requires
index_mut-part-requires c =
    let next = next_known (λ s. s.shard.0 < c.args.shards) c.in-Some.seat _ _ c.in-Some.ensures.steps.0 c.loop-seat.invariant.known in
    let bound : c.in-Some.seat.shard.0 < c.args.shards = next.0 in
    let long : length c.loop-seat.parts.items ≡ c.args.shards = ap length c.loop-seat.invariant.parts ∙ handed_length c.args.shards c.loop-seat.yielded in
    omega arith

pub loop-seat-preserved : goal.loop-seat-preserved
loop-seat-preserved c =
    let next = next_known (λ s. s.shard.0 < c.args.shards) c.in-Some.seat _ _ c.in-Some.ensures.steps.0 c.loop-seat.invariant.known in
    let pushed : c.push.new.self ≡ c.index_mut-part.result.now ++ c.in-Some.seat.document ∷ [] = search rules in
    record { parts = handed_more c.args.shards c.loop-seat.yielded c.in-Some.seat c.index_mut-part.result.now c.push.new.self c.loop-seat.parts.items next.0 c.loop-seat.invariant.parts c.index_mut-part.ensures.value pushed; known = next.1 }
