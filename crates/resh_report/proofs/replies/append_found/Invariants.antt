use Rattle.std.proofs.Common.{◌≡◌, ◌++◌, take, flat_map}
use Rattle.resh_report.specs.Replies.{found_line}
use Rattle.resh_report.proofs.replies.append_found.Given as goal

abbrev pub invariant-loop-document : goal.invariant-loop-document
invariant-loop-document l = l.out.items ≡ l.initial.out.items ++ flat_map found_line (take l.document-index l.documents)
