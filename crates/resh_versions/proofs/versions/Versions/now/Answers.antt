use Rattle.resh_versions.specs.Standing.{StandsUnder}
use Rattle.resh_versions.proofs.ChainLaws.{behind, newest_has}
use Rattle.resh_versions.proofs.versions.Versions.now.Goals as goal

pub returns-in-Some-clause-stands : goal.returns-in-Some-clause-stands
returns-in-Some-clause-stands c =
    behind (StandsUnder c.args.id.now) c.newest.result _ c.newest.ensures (newest_has (StandsUnder c.args.id.now) c.in-Some.chain.now c.in-Some.ensures.named.stand)
