use Rattle.std.proofs.Common.{◌≡◌, replicate}
use Rattle.std.specs.FinMap.{empty}
use Rattle.resh_rules.specs.Pools.{documents_of}
use Rattle.resh_rules.proofs.upkeep.empty_stashes.Given as goal

abbrev pub invariant-loop : goal.invariant-loop
invariant-loop l = documents_of l.stashes.items ≡ replicate l.counter empty
