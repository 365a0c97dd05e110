use Rattle.std.proofs.Common.{◌≡◌, ◌++◌, take}
use Rattle.resh_run.specs.Cluster.{lines_at}
use Rattle.resh_run.proofs.cluster.push_lines.Given as goal

abbrev pub invariant-loop-row : goal.invariant-loop-row
invariant-loop-row l = l.lines ≡ l.initial.lines ++ lines_at l.setup l.number (take l.row-index l.row-items)
