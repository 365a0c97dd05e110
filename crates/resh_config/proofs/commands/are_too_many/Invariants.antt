use Rattle.std.proofs.Common.{◌≡◌, ◌+◌, ◌≤◌, length}
use Rattle.resh_setup.specs.Validity.{command_count}
use Rattle.resh_config.proofs.commands.are_too_many.Given as goal

abbrev pub invariant-loop-rest : goal.invariant-loop-rest
invariant-loop-rest l = record {
  bound : l.left ≤ 20000;
  counted : l.left + command_count l.fn.clients ≡ 20000 + command_count l.rest;
}

abbrev pub decreases-loop-rest : goal.decreases-loop-rest
decreases-loop-rest l = length l.rest
