use Rattle.std.proofs.Common.{◌≡◌, ◌≤◌, length}
use Rattle.std.specs.Option.{option_copied}
use Rattle.resh_rules.specs.Pools.{documents_of, first_stashed}
use Rattle.resh_rules.proofs.Upkeeping.{least_with}
use Rattle.resh_rules.proofs.upkeep.first_of.Given as goal

abbrev pub invariant-loop-rest : goal.invariant-loop-rest
invariant-loop-rest l = record {
  within : length l.rest ≤ length l.stashes;
  least : least_with (documents_of l.rest) (option_copied l.least) ≡ first_stashed (documents_of l.stashes);
}

abbrev pub decreases-loop-rest : goal.decreases-loop-rest
decreases-loop-rest l = length l.rest
