use Rattle.std.proofs.Common.{None, refl, length, ap, sym, ◌∙◌, Bor}
use Rattle.std.proofs.lemmas.List.{length-map}
use Rattle.std.proofs.lemmas.Iterator.Consumers.{YieldsList-at, YieldsList-end, YieldsList-from_first}
use Rattle.resh_versions.specs.Chains.{Document}
use Rattle.resh_versions.specs.Standing.{VersionsOf, standing_now}
use Rattle.resh_run.proofs.cluster.count_of.Goals as goal

pub returns : goal.returns
returns c =
    let seen = YieldsList-end
    (YieldsList-at c.into_iter-iterator.ensures.into_iter_gives (YieldsList-from_first (λ (b : Bor Document). b.now) (λ s. s) c.walk_now-items.result refl))
    c.loop.yielded _ c.loop.yielded_by _ _ c.in-None.is c.next.ensures.steps in
    c.loop.invariant ∙ sym (length-map c.loop.yielded (λ (b : Bor Document). b.now)) ∙ ap length seen.0 ∙ ap length (c.walk_now-items.ensures.listed ∙ ap (λ (v : VersionsOf). standing_now v None) c.versions.ensures)
