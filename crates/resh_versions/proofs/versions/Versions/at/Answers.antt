use Rattle.resh_versions.specs.Standing.{StandsUnder}
use Rattle.resh_versions.proofs.ChainLaws.{behind, chain_at_has}
use Rattle.resh_versions.proofs.versions.Versions.at.Goals as goal

pub returns-in-Some-clause-stands : goal.returns-in-Some-clause-stands
returns-in-Some-clause-stands c =
    behind (StandsUnder c.args.id.now) c.at.result _ c.at.ensures (chain_at_has (StandsUnder c.args.id.now) c.args.time c.in-Some.chain.now c.in-Some.ensures.named.stand)
