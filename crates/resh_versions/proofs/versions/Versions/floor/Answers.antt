use Rattle.std.proofs.Common.{subst}
use Rattle.resh_versions.specs.Standing.{IsFiled}
use Rattle.resh_versions.proofs.versions.Versions.floor.Goals as goal

pub returns-clause-filed : goal.returns-clause-filed
returns-clause-filed c = subst (λ s. IsFiled s.chains) c.self.view_is c.self.invariant.filed
