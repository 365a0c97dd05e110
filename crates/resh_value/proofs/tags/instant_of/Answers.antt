use Rattle.std.proofs.Common.{ap, sym, ◌∙◌}
use Rattle.serde_json.specs.Data.{member, no_members}
use Rattle.serde_json.specs.View.{view, members_view}
use Rattle.resh_value.specs.Tags.{instant_of}
use Rattle.resh_value.proofs.reading.TaggedNumbers.{alone, no_date}
use Rattle.resh_value.proofs.reading.RisingNames.{Entry}
use Rattle.resh_value.proofs.tags.instant_of.Goals as goal

pub returns-then-len-ne1 : goal.returns-then-len-ne1
returns-then-len-ne1 c = no_date c.args.members.now.entries (λ one. c.if-len-ne1.true (c.len.ensures.len ∙ one))

pub returns-in-Some : goal.returns-in-Some
returns-in-Some c =
    let e : Entry = (c.in-Some.name.now, c.in-Some.content.now) in
    let only = alone c.args.members.now.entries e (sym c.len.ensures.len ∙ c.if-len-ne1.false) c.in-Some.ensures.first in
    c.instant_under.ensures ∙ (ap (λ n. instant_of (member n (view e.1) no_members)) c.as_str.ensures.value ∙ ap (λ es. instant_of (members_view es)) (sym only))
