use Rattle.std.proofs.Common.{◌≡◌, ◌+◌, ◌*◌, ◌≤◌, length, take}
use Rattle.std.specs.List.{flat_map, fold}
use Rattle.resh_value.specs.Depth.{levels_of}
use Rattle.resh_value.specs.Hash.{input_of, field_input}
use Rattle.resh_value.proofs.levels.Insides.{deepest, items_levels}
use Rattle.resh_value.proofs.hash.+hash.Given as goal

abbrev pub decreases-feed : goal.decreases-feed
decreases-feed g l = 4 * levels_of l.value.now + 1

abbrev pub decreases-feed_content : goal.decreases-feed_content
decreases-feed_content g l = 4 * levels_of l.value.now

abbrev pub decreases-feed_document : goal.decreases-feed_document
decreases-feed_document g l = 4 * deepest l.fields.now + 3

abbrev pub decreases-feed_field : goal.decreases-feed_field
decreases-feed_field g l = 4 * levels_of l.field.now.1 + 2

abbrev pub decreases-feed_items : goal.decreases-feed_items
decreases-feed_items g l = 4 * items_levels l.items.now + 2

abbrev pub invariant-feed_document-loop-i : goal.invariant-feed_document-loop-i
invariant-feed_document-loop-i g l = (l.i ≤ length l.fields) × (l.state ≡ fold g.H.Hasher.write l.initial.state (flat_map (field_input input_of) (take l.i l.fields)))

abbrev pub invariant-feed_items-loop-i : goal.invariant-feed_items-loop-i
invariant-feed_items-loop-i g l = (l.i ≤ length l.items) × (l.state ≡ fold g.H.Hasher.write l.initial.state (flat_map input_of (take l.i l.items)))
