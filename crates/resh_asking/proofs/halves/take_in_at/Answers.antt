use Rattle.std.proofs.Common.{sym}
use Rattle.std.proofs.lemmas.Result.{IfOk-weaker}
use Rattle.resh_asking.specs.Steps.{HasTakenIn}
use Rattle.resh_asking.proofs.Becoming.{became}
use Rattle.resh_asking.proofs.halves.take_in_at.Goals as goal

pub returns-in-Some : goal.returns-in-Some
returns-in-Some c =
    IfOk-weaker c.take_in.result _ _
    (λ came done. became c.args.cluster.now c.args.shard c.in-Some.cell.now c.take_in.new.shard (λ old new. HasTakenIn c.args.stamp c.args.document old new came) (sym c.in-Some.ensures.value) done)
    c.take_in.ensures
