use Rattle.std.proofs.Common.{ap, length, arith}
use Rattle.resh_glance.proofs.Rooms.{room-key}
use Rattle.resh_glance.proofs.room.key_room.Goals as goal

pub returns : goal.returns
returns c = omega (arith, room-key c.args.name.now, ap length c.as_bytes.ensures, c.saturating_mul.ensures, c.saturating_add.ensures)
