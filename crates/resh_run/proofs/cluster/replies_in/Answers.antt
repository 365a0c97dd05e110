use Rattle.std.proofs.Common.{List, [], ◌∷◌, ◌++◌, ap, ◌∙◌}
use Rattle.resh_cells.specs.declared.cluster.ClientCell.{ClientCell}
use Rattle.resh_run.proofs.Taken.{all_read, one_more}
use Rattle.resh_run.proofs.cluster.replies_in.Goals as goal

pub loop-client-preserved : goal.loop-client-preserved
loop-client-preserved c =
    one_more (λ (cell : ClientCell). cell.replies) c.loop-client.client _ _ _ c.in-Some.replies.now c.loop-client.invariant c.in-Some.ensures
    (c.in_ok-push-in-Some.ensures.items ∙ ap (λ r. c.loop-client.answers.items ++ r ∷ []) c.in_ok-copied-in-Some.ensures)

pub returns-in-None : goal.returns-in-None
returns-in-None c = c.from_vec.ensures ∙ all_read (λ (cell : ClientCell). cell.replies) c.loop-client.client _ _ c.loop-client.invariant c.in-None.ensures
