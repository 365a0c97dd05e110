use Rattle.std.proofs.Common.{ap, length, arith}
use Rattle.resh_glance.proofs.Rooms.{room-string}
use Rattle.resh_glance.proofs.room.text_room.Goals as goal

pub returns : goal.returns
returns c = omega (arith, room-string c.args.text.now, ap length c.as_bytes.ensures, c.saturating_mul.ensures, c.saturating_add.ensures)
