use Rattle.std.proofs.Common.{◌≡◌, length}
use Rattle.resh_gen.specs.Summary.{tally_from, tally_in}
use Rattle.resh_gen.proofs.summaries.tally_in.Given as goal

abbrev pub invariant-loop-rest : goal.invariant-loop-rest
invariant-loop-rest l = tally_from l.tally l.rest ≡ tally_in l.answers

abbrev pub decreases-loop-rest : goal.decreases-loop-rest
decreases-loop-rest l = length l.rest
