use Rattle.std.proofs.Common.{◌+◌, ◌%◌, slice_index_or, ap, ◌∙◌}
use Rattle.std.proofs.Math.Nat.{mod-lt}
use Rattle.resh_split.proofs.Sums.{sum_more}
use Rattle.resh_split.proofs.lane.remainder.Goals as goal

pub loop-byte-preserved : goal.loop-byte-preserved
loop-byte-preserved c =
    let byte = slice_index_or c.args.bytes.now c.loop-byte.byte-index 0 in
    (ap (λ r. (r + byte) % c.args.lanes) c.loop-byte.invariant.0 ∙ sum_more c.args.bytes.now c.loop-byte.byte-index c.args.lanes c.loop-byte-test.true, mod-lt _ c.requires.positive)
