use Rattle.std.proofs.Common.{arith}
use Rattle.resh_value.proofs.HexDigits.{digits_by_place}
use Rattle.resh_value.proofs.text.hex_of.Goals as goal

pub returns-clause-value : goal.returns-clause-value
returns-clause-value c =
    digits_by_place c.args.bytes.now c.loop-place.digits (omega arith) (λ k l. c.loop-place.invariant.1 k (omega arith))
