use Rattle.std.proofs.Common.{sym, ap, ◌∙◌}
use Rattle.std.proofs.lemmas.Result.{IfOk-weaker}
use Rattle.resh_chunks.specs.Chunks.{owner_of}
use Rattle.resh_ops.specs.Updates.{updated}
use Rattle.resh_bag.specs.Answer.{result_doing, text_limit}
use Rattle.resh_model.proofs.answers.Hitting.{hit_doing}
use Rattle.resh_model.proofs.answer.change.Goals as goal

pub returns-in-Some : goal.returns-in-Some
returns-in-Some c =
    IfOk-weaker c.change_one.result _ _ (λ d is. is
    ∙ ap (λ s. result_doing c.args.map.now c.args.collection.now s c.in-Some.document.now (updated text_limit c.args.update.now c.in-Some.document.now)) (c.owner_of-shard.ensures.owner ∙ ap (owner_of c.args.map.now) c.fields.ensures)
    ∙ hit_doing c.args.map.now c.args.collection.now c.args.filter.now
    (λ d. result_doing c.args.map.now c.args.collection.now (owner_of c.args.map.now c.args.filter.now) d (updated text_limit c.args.update.now d)) c.in-Some.document.now (sym c.has_key.ensures ∙ c.if-not-has_key.false) c.in-Some.ensures)
    c.change_one.ensures
