use Rattle.resh_value.specs.Text.{document_tokens}
use Rattle.resh_glance.proofs.Rooms.{is_short}
use Rattle.resh_glance.proofs.length.is_longer.Goals as goal

pub returns-then-document_room-limit : goal.returns-then-document_room-limit
returns-then-document_room-limit c =
    is_short c.document_room.result c.args.limit (document_tokens c.args.document.now) c.document_room.ensures c.ranges.limit.fits c.if-document_room-limit.true
