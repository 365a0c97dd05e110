use Rattle.std.proofs.Common.{ap, ◌∙◌}
use Rattle.std.proofs.lemmas.Result.{IfOk-weaker}
use Rattle.resh_shard.specs.Decisions.{act_by, answered, doing_on}
use Rattle.resh_shard.proofs.Decided.{acts}
use Rattle.resh_shard.proofs.shard.Shard.serve.Goals as goal

pub returns-clause-answer : goal.returns-clause-answer
returns-clause-answer c =
    IfOk-weaker c.perform.result _ _ (λ act is. is ∙ ap act_by c.in_ok-decision.ensures.decision
    ∙ acts c.self.inside.state (doing_on c.self.inside.state c.args.command.now)
    ∙ ap (λ s. answered (doing_on s c.args.command.now)) c.self.view_is)
    c.perform.ensures.answer
