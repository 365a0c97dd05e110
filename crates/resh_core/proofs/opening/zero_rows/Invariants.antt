use Rattle.std.proofs.Common.{◌≡◌, replicate}
use Rattle.resh_core.proofs.opening.zero_rows.Given as goal

abbrev pub invariant-loop : goal.invariant-loop
invariant-loop l = l.cells.items ≡ replicate l.counter (replicate l.count 0)
