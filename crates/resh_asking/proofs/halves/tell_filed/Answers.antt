use Rattle.std.proofs.Common.{subst}
use Rattle.resh_versions.specs.Standing.{IsFiled, VersionsOf}
use Rattle.resh_asking.proofs.halves.tell_filed.Goals as goal

pub returns : goal.returns
returns c = subst (λ (v : VersionsOf). IsFiled v.chains) c.versions.ensures c.floor-least.ensures.filed
