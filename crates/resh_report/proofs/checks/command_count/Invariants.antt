use Rattle.std.proofs.Common.{◌≡◌, ◌+◌, length}
use Rattle.resh_setup.specs.Validity.{command_count}
use Rattle.resh_report.proofs.checks.command_count.Given as goal

abbrev pub invariant-loop-rest : goal.invariant-loop-rest
invariant-loop-rest l = l.count + command_count l.rest ≡ command_count l.clients

abbrev pub decreases-loop-rest : goal.decreases-loop-rest
decreases-loop-rest l = length l.rest
