use Rattle.std.proofs.Common.{map, take}
use Rattle.resh_value.specs.Text.{tokens_of, document_tokens, array_tokens}
use Rattle.resh_glance.specs.Room.{Covers}
use Rattle.resh_glance.proofs.room.+room.Given as goal

abbrev pub invariant-document_room-loop-name : goal.invariant-document_room-loop-name
invariant-document_room-loop-name l = Covers l.room (document_tokens (take l.name-index l.name-items))

abbrev pub invariant-items_room-loop-item : goal.invariant-items_room-loop-item
invariant-items_room-loop-item l = Covers l.room (array_tokens (map tokens_of (take l.item-index l.item-items)))
