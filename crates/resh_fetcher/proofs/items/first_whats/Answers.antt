use Rattle.std.proofs.Common.{map, ap, ◌∙◌}
use Rattle.std.proofs.lemmas.Iterator.{YieldsList-from_slice, YieldsList-from_take}
use Rattle.std.proofs.lemmas.Iterator.Consumers.{YieldsList-at, YieldsList-end}
use Rattle.resh_feed.specs.declared.item.Item.{Item}
use Rattle.resh_fetcher.proofs.items.first_whats.Goals as goal

pub returns : goal.returns
returns c =
    let seen = YieldsList-end
    (YieldsList-at c.into_iter-item-iterator.ensures.into_iter_gives
    (YieldsList-from_take c.args.most
    (YieldsList-at c.take-item-items.ensures.source (YieldsList-from_slice c.args.items.now cc))
    c.take-item-items.ensures.count))
    c.loop-item.yielded _ c.loop-item.yielded_by _ _ c.in-None.is c.next.ensures.steps in
    c.from_vec.ensures ∙ c.loop-item.invariant ∙ ap (map (λ (item : Item). item.what)) seen.0
