use Rattle.std.proofs.Common.{rules, tests, ◌∙◌}
use Rattle.std.proofs.lemmas.Iterator.{YieldsList-from_slice, YieldsList-from_take}
use Rattle.std.proofs.lemmas.Iterator.Consumers.{YieldsList-at, YieldsList-end, YieldsList-from_filter}
use Rattle.resh_oplog.specs.Logs.{is_for}
use Rattle.resh_oplog.proofs.log.copies_for.Goals as goal

pub returns : goal.returns
returns c =
    let seen = YieldsList-end
    (YieldsList-at c.into_iter-entry-iterator.ensures.into_iter_gives
    (YieldsList-from_take c.args.most
    (YieldsList-at c.take-entry-items.ensures.source
    (YieldsList-from_filter _ (λ e. is_for c.args.to.0 e.to) (YieldsList-from_slice c.args.entries.now cc) c.filter.ensures.closure (λ x r q k. search (rules, tests))))
    c.take-entry-items.ensures.count))
    c.loop-entry.yielded _ c.loop-entry.yielded_by _ _ c.in-None.is c.next.ensures.steps in
    c.from_vec.ensures ∙ c.loop-entry.invariant ∙ seen.0
