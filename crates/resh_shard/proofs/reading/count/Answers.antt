use Rattle.std.proofs.Common.{rules, tests, refl, length, filter, ap, sym, ◌∙◌, Bor}
use Rattle.std.proofs.lemmas.List.{length-map}
use Rattle.std.proofs.lemmas.Iterator.Consumers.{YieldsList-at, YieldsList-end, YieldsList-from_filter, YieldsList-from_first}
use Rattle.resh_filter.specs.Filters.{matches}
use Rattle.resh_versions.specs.Chains.{Document}
use Rattle.resh_shard.proofs.reading.count.Goals as goal

pub returns-clause-count : goal.returns-clause-count
returns-clause-count c =
    let seen = YieldsList-end
    (YieldsList-at c.into_iter-iterator.ensures.into_iter_gives
    (YieldsList-from_filter _ (matches c.args.wanted.now)
    (YieldsList-at c.filter-items.ensures.source (YieldsList-from_first (λ (b : Bor Document). b.now) (λ s. s) c.walk_now.result refl))
    c.filter-items.ensures.closure (λ x r q k. search (rules, tests))))
    c.loop.yielded _ c.loop.yielded_by _ _ c.in-None.is c.next.ensures.steps in
    c.loop.invariant ∙ sym (length-map c.loop.yielded (λ (b : Bor Document). b.now)) ∙ ap length seen.0
    ∙ ap (λ ds. length (filter (matches c.args.wanted.now) ds)) c.walk_now.ensures.listed
