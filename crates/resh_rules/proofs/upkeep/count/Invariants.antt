use Rattle.std.proofs.Common.{◌≡◌, ◌<◌, ◌+◌, ◌^◌, ◌-◌, length, min}
use Rattle.resh_rules.specs.Pools.{documents_of, stashed}
use Rattle.resh_rules.proofs.upkeep.count.Given as goal

abbrev pub invariant-loop-rest : goal.invariant-loop-rest
invariant-loop-rest l = record {
  fits : l.total < 2 ^ 64;
  counted : min (l.total + stashed (documents_of l.rest)) (2 ^ 64 - 1) ≡ min (stashed (documents_of l.stashes)) (2 ^ 64 - 1);
}

abbrev pub decreases-loop-rest : goal.decreases-loop-rest
decreases-loop-rest l = length l.rest
