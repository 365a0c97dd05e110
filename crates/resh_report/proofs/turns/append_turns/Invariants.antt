use Rattle.std.proofs.Common.{◌≡◌, [], ◌++◌, take, drop}
use Rattle.resh_report.specs.Lines.{names_of}
use Rattle.resh_report.specs.Page.{turn_lines}
use Rattle.resh_report.specs.Counts.{HasCounts}
use Rattle.resh_report.proofs.turns.append_turns.Given as goal

abbrev pub invariant-loop-turn : goal.invariant-loop-turn
invariant-loop-turn l = record {
  counts : HasCounts (take l.turn-index l.turns) l.counts;
  written : l.out.items ++ turn_lines (names_of l.clients) (take l.turn-index l.turns) (drop l.turn-index l.turns) ≡ l.initial.out.items ++ turn_lines (names_of l.clients) [] l.turns;
}
