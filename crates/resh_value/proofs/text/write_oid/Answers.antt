use Rattle.std.proofs.lemmas.Str.{IsUtf8-from_ascii}
use Rattle.resh_value.proofs.text.write_oid.Goals as goal

pub unreachable-requires : goal.unreachable-requires
unreachable-requires c = c.in-Err.ensures.cases.0 (IsUtf8-from_ascii c.hex_of-digits.result c.hex_of-digits.ensures.ascii)
