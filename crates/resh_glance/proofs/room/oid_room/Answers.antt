use Rattle.std.proofs.Common.{arith}
use Rattle.resh_value.specs.Text.{hex_of}
use Rattle.resh_glance.proofs.Rooms.{room-oid, length-hex_of}
use Rattle.resh_glance.proofs.room.oid_room.Goals as goal

pub returns : goal.returns
returns c = omega (arith, room-oid (hex_of c.args.bytes.now), length-hex_of c.args.bytes.now, c.told-bytes)
