use Rattle.std.proofs.Common.{◌≡◌, length}
use Rattle.resh_gen.specs.Summary.{tally_of}
use Rattle.resh_gen.proofs.summaries.tally_of.Given as goal

abbrev pub invariant-loop-rest : goal.invariant-loop-rest
invariant-loop-rest l = tally_of l.tally l.rest ≡ tally_of l.fn.before l.replies

abbrev pub decreases-loop-rest : goal.decreases-loop-rest
decreases-loop-rest l = length l.rest
