use Rattle.std.proofs.Common.{sym, ◌∙◌}
use Rattle.resh_model.proofs.answers.Hitting.{not_hit}
use Rattle.resh_model.proofs.answer.hit.Goals as goal

pub returns-else-matches : goal.returns-else-matches
returns-else-matches c =
    not_hit c.args.map.now c.args.collection.now c.args.filter.now c.fields-fields.result.now c.owner_of.result.0 c.in-Some.document.now c.fields-fields.ensures c.owner_of.ensures.owner c.in-Some.ensures (sym c.matches.ensures.value ∙ c.if-matches.false)
