use Rattle.std.proofs.Common.{ap, is_some}
use Rattle.resh_run.proofs.Runs.{ran_on}
use Rattle.resh_run.proofs.cluster.run_on_cluster.Goals as goal

pub returns : goal.returns
returns c =
    ran_on c.args.setup.now _ _ _ _ _ _ _ c.in_ok-written.written _ _ c.in_ok-core.ensures c.in_ok-lucks.ensures c.in_ok-lines.ensures c.in_ok-finish.ensures.swept
    c.in_ok-finish.ensures.over c.in_ok-written.ensures c.into_parts-trace.ensures.trace c.into_parts-trace.ensures.order

pub page_of-requires : goal.page_of-requires
page_of-requires c = record { decided = ap is_some c.in_ok-finish.ensures.walk.decided }
