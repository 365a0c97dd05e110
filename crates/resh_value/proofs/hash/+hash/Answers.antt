use Rattle.std.proofs.Common.{arith, rules, ap, sym, ◌∙◌}
use Rattle.std.specs.Hash as fed
use Rattle.std.specs.Hash.{fed_then}
use Rattle.std.specs.List.{fold}
use Rattle.resh_value.specs.Depth.{levels_of}
use Rattle.resh_value.specs.Hash.{content_input_of}
use Rattle.resh_value.specs.derived.HashLaws.{input-out}
use Rattle.resh_value.specs.Order.{kind}
use Rattle.resh_value.proofs.levels.Insides.{deepest, items_levels, levels-Doc, levels-Array, item_levels, field_levels}
use Rattle.resh_value.proofs.hash.+hash.Goals as goal

pub feed-returns : goal.feed-returns
feed-returns g t c =
    fed_then g.H.Hasher.write c.args.state.now c.write_u8.new.self c.feed_content.new.state (fed.u8 (kind c.args.value.now)) (content_input_of c.args.value.now) (search rules) c.feed_content.ensures
    ∙ ap (fold g.H.Hasher.write c.args.state.now) (sym (input-out c.args.value.now))

pub feed_content-feed_document-requires : goal.feed_content-feed_document-requires
feed_content-feed_document-requires g t c = λ κs lives.
    (omega (arith, ap levels_of c.in-Doc.is, levels-Doc c.in-Doc.document, ap deepest c.pairs.ensures.fields), lives)

pub feed_content-feed_items-requires : goal.feed_content-feed_items-requires
feed_content-feed_items-requires g t c = λ κs lives.
    (omega (arith, ap levels_of c.in-List.is, levels-Array c.in-List.items, ap items_levels c.as_slice.ensures), lives)

pub feed_document-feed_field-requires : goal.feed_document-feed_field-requires
feed_document-feed_field-requires g t c = λ κs lives.
    let h = field_levels c.args.fields.now c.loop-i.i c.index-fields-i.result (omega arith) c.index-fields-i.is in (omega (arith, h), lives)

pub feed_items-feed-requires : goal.feed_items-feed-requires
feed_items-feed-requires g t c = λ κs lives.
    let h = item_levels c.args.items.now c.loop-i.i c.index-items-i.result (omega arith) c.index-items-i.is in (omega (arith, h), lives)
