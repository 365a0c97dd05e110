use Rattle.resh_keeping.proofs.Kept.{clocks_keep, keeps, opens}
use Rattle.resh_keeping.proofs.laws.keeping_laws.Goals as goal

pub returns-clause-opens : goal.returns-clause-opens
returns-clause-opens c = opens

pub returns-clause-keeps : goal.returns-clause-keeps
returns-clause-keeps c = keeps

pub returns-clause-clocks : goal.returns-clause-clocks
returns-clause-clocks c = clocks_keep
