use Rattle.std.proofs.Common.{rules, tests, refl, take, filter, ap, ◌∙◌, Bor}
use Rattle.std.proofs.lemmas.Iterator.{YieldsList-from_take}
use Rattle.std.proofs.lemmas.Iterator.Consumers.{YieldsList-at, YieldsList-end, YieldsList-from_filter, YieldsList-from_first}
use Rattle.resh_filter.specs.Filters.{matches}
use Rattle.resh_versions.specs.Chains.{Document}
use Rattle.resh_shard.proofs.reading.first.Goals as goal

pub returns : goal.returns
returns c =
    let seen = YieldsList-end
    (YieldsList-at c.into_iter-document-iterator.ensures.into_iter_gives
    (YieldsList-from_take 10
    (YieldsList-at c.take-document-items.ensures.source
    (YieldsList-from_filter _ (matches c.args.wanted.now)
    (YieldsList-at c.filter.ensures.source (YieldsList-from_first (λ (b : Bor Document). b.now) (λ s. s) c.walk_now.result refl))
    c.filter.ensures.closure (λ x r q k. search (rules, tests))))
    c.take-document-items.ensures.count))
    c.loop-document.yielded _ c.loop-document.yielded_by _ _ c.in-None.is c.next.ensures.steps in
    c.from_vec.ensures ∙ c.loop-document.invariant ∙ seen.0
    ∙ ap (λ ds. take 10 (filter (matches c.args.wanted.now) ds)) c.walk_now.ensures.listed
