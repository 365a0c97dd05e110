use Rattle.std.proofs.Common.{rules, tests, ◌≡◌, ◌∙◌, Bor, take, filter, refl, ap, sym, subst}
use Rattle.std.proofs.lemmas.Iterator.{YieldsList-from_take}
use Rattle.std.proofs.lemmas.Iterator.Consumers.{YieldsList-at, YieldsList-end, YieldsList-from_filter, YieldsList-from_first}
use Rattle.std.proofs.lemmas.List.Elements.{All-filter, All-take}
use Rattle.std.specs.List.{All}
use Rattle.resh_versions.specs.Chains.{Document, IsStored}
use Rattle.resh_cloner.specs.Cloning.{comes_to}
use Rattle.resh_cloner.proofs.next.next_of.Goals as goal

-- the copies are the first documents of the walk that come to the recipient
copied : (c : goal.After-from_vec) → c.from_vec.result ≡ take c.args.most (filter (comes_to c.args.new_map.now c.args.to.0) c.walk_at.result)
copied c =
    let seen = YieldsList-end
    (YieldsList-at c.into_iter-document-iterator.ensures.into_iter_gives
    (YieldsList-from_take c.args.most
    (YieldsList-at c.take-document-items.ensures.source
    (YieldsList-from_filter _ (comes_to c.args.new_map.now c.args.to.0)
    (YieldsList-at c.filter-coming.ensures.source (YieldsList-from_first (λ (b : Bor Document). b.now) (λ s. s) c.walk_at.result refl))
    c.filter-coming.ensures.closure (λ x b q k. search (rules, tests))))
    c.take-document-items.ensures.count))
    c.loop-document.yielded _ c.loop-document.yielded_by _ _ c.in-None.is c.next.ensures.steps in
    c.from_vec.ensures ∙ c.loop-document.invariant ∙ seen.0

pub returns-clause-documents : goal.returns-clause-documents
returns-clause-documents c = copied c ∙ ap (λ l. take c.args.most (filter (comes_to c.args.new_map.now c.args.to.0) l)) c.walk_at.ensures.listed

pub returns-clause-whole : goal.returns-clause-whole
returns-clause-whole c =
    subst (All IsStored) (sym (copied c))
    (All-take IsStored c.args.most _ (All-filter (comes_to c.args.new_map.now c.args.to.0) IsStored c.walk_at.result c.walk_at.ensures.whole))
