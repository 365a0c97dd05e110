use Rattle.std.proofs.Common.{◌≡◌, ◌+◌, ◌++◌, length}
use Rattle.resh_report.specs.Lines.{names_of}
use Rattle.resh_report.specs.Replies.{answers_lines}
use Rattle.resh_report.proofs.replies.append_answers.Given as goal

abbrev pub invariant-loop-rest : goal.invariant-loop-rest
invariant-loop-rest l = record {
  written : l.out.items ++ answers_lines (names_of l.clients) l.place l.rest ≡ l.initial.out.items ++ answers_lines (names_of l.clients) 0 l.answers;
  count : l.place + length l.rest ≡ length l.answers;
}

abbrev pub decreases-loop-rest : goal.decreases-loop-rest
decreases-loop-rest l = length l.rest
