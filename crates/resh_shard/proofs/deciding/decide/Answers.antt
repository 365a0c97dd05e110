use Rattle.std.proofs.Common.{ap, sym, ◌∙◌}
use Rattle.std.proofs.lemmas.Result.{IfOk-weaker}
use Rattle.resh_command.specs.declared.reply.Reply.TheVariants.{Found, Counted}
use Rattle.resh_shard.specs.Decisions.{decided, doing_on}
use Rattle.resh_shard.specs.declared.act.Decision.TheVariants.{Says}
use Rattle.resh_shard.proofs.Decided.{counts, finds}
use Rattle.resh_shard.proofs.deciding.decide.Goals as goal

pub returns-in-Update-clause-decision : goal.returns-in-Update-clause-decision
returns-in-Update-clause-decision c =
    IfOk-weaker c.change.result _ _ (λ d is. is ∙ ap (λ k. decided c.args.state.now (doing_on c.args.state.now k)) (sym c.in-Update.is)) c.change.ensures.decision

pub returns-in_ok-first-in-Find-clause-decision : goal.returns-in_ok-first-in-Find-clause-decision
returns-in_ok-first-in-Find-clause-decision c =
    (λ i. Says (Found (c.in_ok-count-in-Find.ensures.count i) (c.in_ok-first-in-Find.ensures i)))
    ∙ finds c.args.state.now c.in_ok-count-in-Find.ensures.filed c.in-Find.filter
    ∙ ap (λ k. decided c.args.state.now (doing_on c.args.state.now k)) (sym c.in-Find.is)

pub returns-in_ok-count-in-Count-clause-decision : goal.returns-in_ok-count-in-Count-clause-decision
returns-in_ok-count-in-Count-clause-decision c =
    (λ i. Says (Counted (c.in_ok-count-in-Count.ensures.count i)))
    ∙ counts c.args.state.now c.in_ok-count-in-Count.ensures.filed c.in-Count.filter
    ∙ ap (λ k. decided c.args.state.now (doing_on c.args.state.now k)) (sym c.in-Count.is)
