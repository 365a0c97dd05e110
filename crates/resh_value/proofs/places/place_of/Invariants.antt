use Rattle.std.proofs.Common.{◌-◌}
use Rattle.resh_value.proofs.Standing.{IsBetween}
use Rattle.resh_value.proofs.places.place_of.Given as goal

abbrev pub invariant-loop-low : goal.invariant-loop-low
invariant-loop-low g l = IsBetween l.pairs l.name l.low l.high

abbrev pub decreases-loop-low : goal.decreases-loop-low
decreases-loop-low g l = l.high - l.low
