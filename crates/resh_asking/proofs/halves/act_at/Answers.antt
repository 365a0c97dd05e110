use Rattle.std.proofs.Common.{sym}
use Rattle.std.proofs.lemmas.Result.{IfOk-weaker}
use Rattle.resh_asking.specs.Steps.{HasDone}
use Rattle.resh_asking.proofs.Becoming.{became}
use Rattle.resh_asking.proofs.halves.act_at.Goals as goal

pub returns-in-Some : goal.returns-in-Some
returns-in-Some c =
    IfOk-weaker c.act.result _ _
    (λ did done. became c.args.cluster.now c.args.shard c.in-Some.cell.now c.act.new.shard (λ old new. HasDone c.args.stamp c.args.command.now old new did) (sym c.in-Some.ensures.value) done)
    c.act.ensures
