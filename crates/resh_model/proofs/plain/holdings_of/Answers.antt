use Rattle.std.proofs.Common.{◌≡◌, ◌∙◌, eqb, filter, ap}
use Rattle.resh_chunks.specs.Chunks.{owner_of}
use Rattle.resh_bag.specs.Placement.{part}
use Rattle.resh_model.proofs.shards.Holding.{next_of}
use Rattle.resh_model.proofs.plain.holdings_of.Goals as goal

pub loop-shard-preserved : goal.loop-shard-preserved
loop-shard-preserved c =
    next_of (part c.args.chunks.now c.args.collection.now) c.loop-shard.shard c.loop-shard.holdings.items c.push.new.self.items c.in_ok-part_of.field-0 c.loop-shard.invariant
    (c.in_ok-part_of.ensures ∙ ap (filter (λ d. eqb (owner_of c.args.chunks.now d) c.loop-shard.shard)) c.entries.ensures) c.in_ok-push.ensures.items
