use Rattle.std.proofs.Common.{codes, sym, ◌∙◌}
use Rattle.resh_ops.specs.Updates.{updated}
use Rattle.resh_ops.proofs.ActionLaws.{keeps_id}
use Rattle.resh_ops.proofs.update.Update.change.Goals as goal

pub returns-clause-id : goal.returns-clause-id
returns-clause-id c =
    c.in_ok-difference.ensures.named (codes "_id")
    (keeps_id c.args.limit c.args.self.now c.args.document.now _ c.actions.ensures.update
    ((λ i. updated c.args.limit (sym c.actions.ensures.all i) (sym c.in_ok-copy.ensures i)) ∙ c.in_ok-after.ensures))
