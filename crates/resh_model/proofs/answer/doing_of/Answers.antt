use Rattle.std.proofs.Common.{◌≡◌, sym, ap, ◌∙◌, length, filter, take}
use Rattle.std.proofs.lemmas.Result.{IfOk-weaker}
use Rattle.resh_filter.specs.Filters.{matches}
use Rattle.resh_command.specs.declared.reply.Reply.TheVariants.{Found, Counted}
use Rattle.resh_bag.specs.Bag.{documents}
use Rattle.resh_bag.specs.Answer.{doing, says}
use Rattle.resh_model.specs.declared.collection.Entry.{Entry}
use Rattle.resh_model.proofs.answers.Showing.{counted}
use Rattle.resh_model.proofs.answer.doing_of.Goals as goal

pub returns-in-Update : goal.returns-in-Update
returns-in-Update c = IfOk-weaker c.change.result _ _ (λ d is. is ∙ ap (doing c.args.map.now c.args.collection.now) (sym c.in-Update.is)) c.change.ensures

pub returns-in_ok-first-in-Find : goal.returns-in_ok-first-in-Find
returns-in_ok-first-in-Find c =
    let p = matches c.in-Find.filter in
    (λ i. says (Found ((c.count.ensures ∙ counted (λ (e : Entry). e.document) p c.entries.result.now (documents c.args.collection.now) c.entries.ensures) i) ((c.in_ok-first-in-Find.ensures ∙ ap (λ l. take 10 (filter p l)) c.entries-in-Find.ensures) i)))
    ∙ ap (doing c.args.map.now c.args.collection.now) (sym c.in-Find.is)

pub returns-in-Count : goal.returns-in-Count
returns-in-Count c =
    ap (λ n. says (Counted n)) (c.count-in-Count.ensures ∙ counted (λ (e : Entry). e.document) (matches c.in-Count.filter) c.entries-in-Count.result.now (documents c.args.collection.now) c.entries-in-Count.ensures)
    ∙ ap (doing c.args.map.now c.args.collection.now) (sym c.in-Count.is)
