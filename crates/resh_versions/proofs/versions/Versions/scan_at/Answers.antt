use Rattle.std.proofs.Common.{◌≡◌, ◌∙◌, Bor, take, refl, ap, sym, subst}
use Rattle.std.proofs.lemmas.Iterator.{YieldsList-from_take}
use Rattle.std.proofs.lemmas.Iterator.Consumers.{YieldsList-at, YieldsList-end, YieldsList-from_first}
use Rattle.std.proofs.lemmas.List.Elements.{All-take}
use Rattle.std.specs.List.{All}
use Rattle.resh_versions.specs.Chains.{Document, IsStored}
use Rattle.resh_versions.proofs.versions.Versions.scan_at.Goals as goal

-- the copies are the first documents of the walk
copied : (c : goal.After-from_vec) → c.from_vec.result ≡ take c.args.most c.walk_at.result
copied c =
    let seen = YieldsList-end
    (YieldsList-at c.into_iter-document-iterator.ensures.into_iter_gives
    (YieldsList-from_take c.args.most
    (YieldsList-at c.take-document-items.ensures.source (YieldsList-from_first (λ (b : Bor Document). b.now) (λ s. s) c.walk_at.result refl))
    c.take-document-items.ensures.count))
    c.loop-document.yielded _ c.loop-document.yielded_by _ _ c.in-None.is c.next.ensures.steps in
    c.from_vec.ensures ∙ c.loop-document.invariant ∙ seen.0

pub returns-clause-listed : goal.returns-clause-listed
returns-clause-listed c = copied c ∙ ap (take c.args.most) c.walk_at.ensures.listed

pub returns-clause-whole : goal.returns-clause-whole
returns-clause-whole c = subst (All IsStored) (sym (copied c)) (All-take IsStored c.args.most c.walk_at.result c.walk_at.ensures.whole)
