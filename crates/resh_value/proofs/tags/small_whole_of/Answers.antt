use Rattle.std.proofs.Common.{w32, ap, sym, ◌∙◌}
use Rattle.resh_value.specs.Tags.{digits_of, is_numeral}
use Rattle.resh_value.proofs.reading.TaggedNumbers.{unread}
use Rattle.resh_value.proofs.tags.small_whole_of.Goals as goal

pub returns-in-Err : goal.returns-in-Err
returns-in-Err c =
    unread w32 c.args.text.now (sym (c.if-not-is_numeral.ensures ∙ ap is_numeral (c.digits_of.ensures ∙ ap digits_of c.as_bytes.ensures.value))) c.in-Err.ensures.value.0
