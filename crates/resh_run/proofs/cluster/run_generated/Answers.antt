use Rattle.std.proofs.Common.{ap, is_some, sym, subst}
use Rattle.resh_setup.specs.Validity.{IsValid}
use Rattle.resh_run.proofs.GeneratedSetups.{generated_valid}
use Rattle.resh_run.proofs.Runs.{generated_on}
use Rattle.resh_run.proofs.cluster.run_generated.Goals as goal

pub start-requires : goal.start-requires
start-requires c = subst IsValid (sym c.in_ok-setup.ensures) (generated_valid c.args.number)

pub returns : goal.returns
returns c =
    generated_on c.args.number _ _ _ _ _ c.in_ok-written.written _ _ c.in_ok-setup.ensures c.in_ok-core.ensures c.in_ok-lucks.ensures c.in_ok-finish.ensures.swept
    c.in_ok-finish.ensures.over c.in_ok-written.ensures c.into_parts-order.ensures.order

pub summary_of-requires : goal.summary_of-requires
summary_of-requires c = record { decided = ap is_some c.in_ok-finish.ensures.walk.decided }
