use Rattle.std.proofs.Common.{subst}
use Rattle.std.proofs.lemmas.Result.{IfOk-weaker}
use Rattle.resh_asking.specs.Steps.{Became, HasTakenIn}
use Rattle.resh_asking.proofs.Halved.{moved_on, not_moved, not_taken}
use Rattle.resh_asking.proofs.moving.move_between.Goals as goal

pub returns-in-Moved : goal.returns-in-Moved
returns-in-Moved c =
    let became =
    subst (λ m. Became c.args.to c.args.cluster.now c.take_in_at.new.cluster (λ before after. HasTakenIn c.args.stamp c.args.document before after m)) c.in-Moved.is c.in_ok-came.ensures in
    IfOk-weaker c.go_on.result _ _
    (moved_on c.args.cluster.now c.take_in_at.new.cluster c.go_on.new.cluster c.args.from c.args.to c.args.stamp c.args.id.now c.in-Ok.new_id c.args.document became c.in-Ok.ensures) c.go_on.ensures

pub returns-in-Duplicate : goal.returns-in-Duplicate
returns-in-Duplicate c =
    let became =
    subst (λ m. Became c.args.to c.args.cluster.now c.take_in_at.new.cluster (λ before after. HasTakenIn c.args.stamp c.args.document before after m)) c.in-Duplicate.is c.in_ok-came.ensures in
    not_moved c.args.cluster.now c.take_in_at.new.cluster c.take_in_at.new.cluster c.args.from c.args.to c.args.stamp c.args.id.now c.in-Ok.new_id c.args.document became

pub returns : goal.returns
returns c =
    let became =
    subst (λ m. Became c.args.to c.args.cluster.now c.take_in_at.new.cluster (λ before after. HasTakenIn c.args.stamp c.args.document before after m)) c.in-Wants.is c.in_ok-came.ensures in
    not_taken c.args.cluster.now c.take_in_at.new.cluster c.take_in_at.new.cluster c.args.from c.args.to c.args.stamp c.args.id.now c.in-Ok.new_id c.args.document became
