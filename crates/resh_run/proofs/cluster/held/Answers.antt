use Rattle.std.proofs.Common.{None, Bor, refl, ap, ◌∙◌}
use Rattle.std.proofs.lemmas.Iterator.Consumers.{YieldsList-at, YieldsList-end, YieldsList-from_first}
use Rattle.resh_versions.specs.Chains.{Document}
use Rattle.resh_versions.specs.Standing.{VersionsOf, standing_now}
use Rattle.resh_run.proofs.cluster.held.Goals as goal

pub returns : goal.returns
returns c =
    let seen = YieldsList-end
    (YieldsList-at c.into_iter-document-iterator.ensures.into_iter_gives (YieldsList-from_first (λ (b : Bor Document). b.now) (λ s. s) c.walk_now-document-items.result refl))
    c.loop-document.yielded _ c.loop-document.yielded_by _ _ c.in-None.is c.next.ensures.steps in
    c.from_vec.ensures ∙ c.loop-document.invariant ∙ seen.0 ∙ c.walk_now-document-items.ensures.listed
    ∙ ap (λ (v : VersionsOf). standing_now v None) c.versions.ensures
