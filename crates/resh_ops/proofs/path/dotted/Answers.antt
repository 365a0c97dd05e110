use Rattle.resh_ops.proofs.PathSteps.{dotted-more}
use Rattle.resh_ops.proofs.path.dotted.Goals as goal

pub loop-name-preserved : goal.loop-name-preserved
loop-name-preserved c =
    dotted-more _ _ _ _ _ _ _ _ c.loop-name-test.true c.name-item.is c.in_ok-push_str-in-len1-up.ensures.bytes c.as_str-in-loop-name.ensures
    c.in_ok-push_str-in-len1-up-2.ensures.bytes c.loop-name.invariant
