use Rattle.std.proofs.Common.{◌≡◌, None, replicate}
use Rattle.resh_coord.proofs.moves.nones.Given as goal

abbrev pub invariant-loop : goal.invariant-loop
invariant-loop l = l.clashes.items ≡ replicate l.counter None
