use Rattle.std.proofs.Common.{rules}
use Rattle.resh_value.proofs.reading.Escapes.{plain_char}
use Rattle.resh_value.proofs.paths.push_escaped_char.Goals as goal

pub returns : goal.returns
returns c = rw (plain_char c.args.c c.if-c-eq126.false c.if-c-eq47.false) (search rules)
