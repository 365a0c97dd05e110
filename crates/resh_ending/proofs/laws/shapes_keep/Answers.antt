use Rattle.resh_ending.proofs.Shaping.{clocks_keep, opens, shapes_keep as keeps}
use Rattle.resh_ending.proofs.laws.shapes_keep.Goals as goal

pub returns-clause-opens : goal.returns-clause-opens
returns-clause-opens c = opens

pub returns-clause-keeps : goal.returns-clause-keeps
returns-clause-keeps c = keeps

pub returns-clause-clocks : goal.returns-clause-clocks
returns-clause-clocks c = clocks_keep
