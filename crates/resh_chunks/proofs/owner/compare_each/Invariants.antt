use Rattle.std.proofs.Common.{◌≡◌, length, map}
use Rattle.resh_chunks.specs.Bounds.{key_cmp}
use Rattle.resh_chunks.proofs.owner.compare_each.Given as goal

abbrev pub invariant-loop-own : goal.invariant-loop-own
invariant-loop-own l = key_cmp (map (λ v. v.now) l.fn.own) l.fn.values ≡ key_cmp (map (λ v. v.now) l.own) l.values

abbrev pub decreases-loop-own : goal.decreases-loop-own
decreases-loop-own l = length l.own
