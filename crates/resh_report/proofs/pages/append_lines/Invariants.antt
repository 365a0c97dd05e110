use Rattle.std.proofs.Common.{◌≡◌, ◌++◌, take, flat_map}
use Rattle.resh_report.specs.Lines.{line}
use Rattle.resh_report.proofs.pages.append_lines.Given as goal

abbrev pub invariant-loop-words : goal.invariant-loop-words
invariant-loop-words l = l.out.items ≡ l.initial.out.items ++ flat_map line (take l.words-index l.lines)
