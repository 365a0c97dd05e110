use Rattle.std.proofs.Common.{◌≡◌, ◌+◌, ◌++◌, length}
use Rattle.resh_report.specs.Replies.{replies_lines}
use Rattle.resh_report.proofs.replies.append_replies.Given as goal

abbrev pub invariant-loop-rest : goal.invariant-loop-rest
invariant-loop-rest l = record {
  written : l.out.items ++ replies_lines l.number l.rest ≡ l.initial.out.items ++ replies_lines 1 l.replies;
  count : l.number + length l.rest ≡ 1 + length l.replies;
}

abbrev pub decreases-loop-rest : goal.decreases-loop-rest
decreases-loop-rest l = length l.rest
