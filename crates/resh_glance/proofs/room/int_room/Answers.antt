use Rattle.std.proofs.Common.{subst, ◌≡◌, false, pos, arith}
use Rattle.std.proofs.Math.Facts.{to_z-of_z}
use Rattle.std.specs.Prelude.{int_lt}
use Rattle.resh_glance.proofs.Rooms.{length-minus, length-plus}
use Rattle.resh_glance.proofs.room.int_room.Goals as goal

pub returns-then-n-lt0-clause-covers : goal.returns-then-n-lt0-clause-covers
returns-then-n-lt0-clause-covers c = omega (arith, length-minus c.args.n c.ranges.n.sfits)

pub returns-else-n-lt0-clause-covers : goal.returns-else-n-lt0-clause-covers
returns-else-n-lt0-clause-covers c =
    omega (arith, length-plus c.args.n (subst (λ n. int_lt n (pos 0) ≡ false) (to_z-of_z c.ranges.n) c.if-n-lt0.false) c.ranges.n.sfits)
