use Rattle.resh_glance.proofs.Rooms.{covers-field, covers-item}
use Rattle.resh_glance.proofs.room.+room.Goals as goal

pub document_room-loop-name-preserved : goal.document_room-loop-name-preserved
document_room-loop-name-preserved t c =
    covers-field c.loop-name.room c.key_room.result c.value_room.result c.saturating_add-room.result c.saturating_add-room-in-loop-name.result c.pairs-name-items.result.now c.loop-name.name-index c.loop-name-item.result
    c.loop-name-test.true c.loop-name-item.is c.loop-name.invariant c.key_room.ensures c.value_room.ensures c.saturating_add-room.ensures c.saturating_add-room-in-loop-name.ensures

pub items_room-loop-item-preserved : goal.items_room-loop-item-preserved
items_room-loop-item-preserved t c =
    covers-item c.loop-item.room c.value_room.result c.saturating_add-room.result c.as_slice-item-items.result.now c.loop-item.item-index c.item-item.result
    c.loop-item-test.true c.item-item.is c.loop-item.invariant c.value_room.ensures c.saturating_add-room.ensures
