use Rattle.std.proofs.Common.{◌≡◌, ◌+◌, ◌++◌, length}
use Rattle.resh_report.specs.Summaries.{held_lines}
use Rattle.resh_report.proofs.summaries.append_held.Given as goal

abbrev pub invariant-loop-rest : goal.invariant-loop-rest
invariant-loop-rest l = record {
  written : l.out.items ++ held_lines l.names l.place l.rest ≡ l.initial.out.items ++ held_lines l.names 0 l.held;
  count : l.place + length l.rest ≡ length l.held;
}

abbrev pub decreases-loop-rest : goal.decreases-loop-rest
decreases-loop-rest l = length l.rest
