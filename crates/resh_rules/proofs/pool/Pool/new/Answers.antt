use Rattle.std.proofs.Common.{arith, refl}
use Rattle.resh_rules.proofs.Upkeeping.{nothing_kept}
use Rattle.resh_rules.proofs.pool.Pool.new.Goals as goal

pub invariant_of-result : goal.invariant_of-result
invariant_of-result c = nothing_kept c.args.chunks c.args.donors _ refl c.new.ensures c.in_ok-empty_stashes.ensures (omega (arith, c.ranges.donors.fits))
