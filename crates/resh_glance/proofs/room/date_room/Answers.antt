use Rattle.std.proofs.Math.Facts.{to_z-of_z}
use Rattle.std.proofs.Common.{subst, ◌∷◌, []}
use Rattle.std.specs.Fmt.{signed_decimal}
use Rattle.json.specs.Token.{number}
use Rattle.resh_glance.specs.Room.{Covers}
use Rattle.resh_glance.proofs.Rooms.{covers-date}
use Rattle.resh_glance.proofs.room.date_room.Goals as goal

pub returns : goal.returns
returns c =
    covers-date c.args.n c.int_room.result
    (subst (λ n. Covers c.int_room.result (number (signed_decimal n) ∷ [])) (to_z-of_z c.ranges.n) c.int_room.ensures.covers) c.int_room.ensures.small
