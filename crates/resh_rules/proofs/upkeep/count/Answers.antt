use Rattle.std.proofs.Common.{arith}
use Rattle.resh_rules.proofs.Upkeeping.{counted_none}
use Rattle.resh_rules.proofs.upkeep.count.Goals as goal

pub returns : goal.returns
returns c = let none = counted_none c.loop-rest.rest.now c.in_default.len_below in omega (arith, none)
