use Rattle.std.proofs.Common.{sym}
use Rattle.std.proofs.lemmas.Result.{IfOk-weaker}
use Rattle.resh_asking.specs.Steps.{HasTakenOut}
use Rattle.resh_asking.proofs.Becoming.{became}
use Rattle.resh_asking.proofs.halves.take_out_at.Goals as goal

pub returns-in-Some : goal.returns-in-Some
returns-in-Some c =
    IfOk-weaker c.take_out.result _ _
    (λ out done. became c.args.cluster.now c.args.shard c.in-Some.cell.now c.take_out.new.shard (λ old new. HasTakenOut c.args.stamp c.args.id.now old new out) (sym c.in-Some.ensures.value) done)
    c.take_out.ensures
