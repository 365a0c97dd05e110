use Rattle.std.proofs.Common.{arith}
use Rattle.resh_value.proofs.reading.TaggedNumbers.{hex_by_place}
use Rattle.resh_value.proofs.tags.bytes_of_hex.Goals as goal

pub returns : goal.returns
returns c = hex_by_place 12 c.args.digits.now c.loop-i.bytes c.requires.length c.loop-i.invariant.0 (λ k l. c.loop-i.invariant.1 k (omega arith))
