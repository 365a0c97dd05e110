use Rattle.std.proofs.Common.{[], ◌∷◌, sym, subst}
use Rattle.std.specs.Prelude.{IfOk}
use Rattle.resh_cells.specs.Belonging.{IsClusterOf}
use Rattle.resh_asking.specs.Served.{IsReached, Leaves}
use Rattle.resh_asking.specs.Steps.{Became, HasDone}
use Rattle.resh_asking.specs.Turns.{IsTurn}
use Rattle.resh_asking.proofs.Answering.{left_same, one_turn, one_wants}
use Rattle.resh_asking.proofs.answers.ask_one.Goals as goal

pub returns-in_ok-replied-in-Replies : goal.returns-in_ok-replied-in-Replies
returns-in_ok-replied-in-Replies c =
    let became =
    subst (λ d. Became c.args.shard c.args.cluster.now c.act_at.new.cluster (λ before after. HasDone c.args.held.stamp c.args.command.now before after d)) c.in-Replies.is c.in_ok-did.ensures in
    one_turn c.args.setup.now c.args.cluster.now c.args.client c.args.command.now c.requires.of c.args.shard c.in_ok-show_filed.ensures.there c.requires.served.reached c.answer.new.cluster
    c.act_at.new.cluster c.in_ok-replied-in-Replies.replied c.args.held c.in-Replies.reply c.requires.served.cells became c.in_ok-replied-in-Replies.ensures.shows c.in_ok-replied-in-Replies.ensures.changed

pub returns-in_ok-refused-in-Wants : goal.returns-in_ok-refused-in-Wants
returns-in_ok-refused-in-Wants c =
    let became =
    subst (λ d. Became c.args.shard c.args.cluster.now c.act_at.new.cluster (λ before after. HasDone c.args.held.stamp c.args.command.now before after d)) c.in-Wants.is c.in_ok-did.ensures in
    one_wants c.args.setup.now c.args.cluster.now c.args.client c.args.command.now c.requires.of c.args.shard c.in_ok-show_filed.ensures.there c.requires.served.reached c.refuse.new.cluster
    c.act_at.new.cluster c.in_ok-refused-in-Wants.refused c.args.held c.requires.served.cells became c.in_ok-refused-in-Wants.ensures.shows c.in_ok-refused-in-Wants.ensures.changed

pub move_to-requires-clause-of : goal.move_to-requires-clause-of
move_to-requires-clause-of c =
    let became =
    subst (λ d. Became c.args.shard c.args.cluster.now c.act_at.new.cluster (λ before after. HasDone c.args.held.stamp c.args.command.now before after d)) c.in-Leaves.is c.in_ok-did.ensures in
    let same =
    left_same c.args.setup.now c.args.cluster.now c.args.client c.args.command.now c.requires.of c.args.shard c.in_ok-show_filed.ensures.there c.requires.served.reached c.act_at.new.cluster
    c.args.held.stamp c.in-Leaves.to c.in-Leaves.document became in
    subst (IsClusterOf c.args.setup.now) (sym same) c.requires.of

pub move_to-requires-clause-reached : goal.move_to-requires-clause-reached
move_to-requires-clause-reached c =
    let became =
    subst (λ d. Became c.args.shard c.args.cluster.now c.act_at.new.cluster (λ before after. HasDone c.args.held.stamp c.args.command.now before after d)) c.in-Leaves.is c.in_ok-did.ensures in
    let same =
    left_same c.args.setup.now c.args.cluster.now c.args.client c.args.command.now c.requires.of c.args.shard c.in_ok-show_filed.ensures.there c.requires.served.reached c.act_at.new.cluster
    c.args.held.stamp c.in-Leaves.to c.in-Leaves.document became in
    subst (λ k. IsReached c.args.setup.now k c.args.client c.args.command.now (c.args.shard ∷ [])) (sym same) c.requires.served.reached

pub move_to-requires-clause-leaves : goal.move_to-requires-clause-leaves
move_to-requires-clause-leaves c =
    let became =
    subst (λ d. Became c.args.shard c.args.cluster.now c.act_at.new.cluster (λ before after. HasDone c.args.held.stamp c.args.command.now before after d)) c.in-Leaves.is c.in_ok-did.ensures in
    let same =
    left_same c.args.setup.now c.args.cluster.now c.args.client c.args.command.now c.requires.of c.args.shard c.in_ok-show_filed.ensures.there c.requires.served.reached c.act_at.new.cluster
    c.args.held.stamp c.in-Leaves.to c.in-Leaves.document became in
    subst (λ k. Leaves k c.args.shard c.args.command.now c.in-Leaves.to c.in-Leaves.document) (sym same)
    (record { filed = c.in_ok-show_filed.ensures.filed; there = c.in_ok-show_filed.ensures.there; leaves = became.made.0; whole = became.made.2 })

pub returns-in-Leaves : goal.returns-in-Leaves
returns-in-Leaves c =
    let became =
    subst (λ d. Became c.args.shard c.args.cluster.now c.act_at.new.cluster (λ before after. HasDone c.args.held.stamp c.args.command.now before after d)) c.in-Leaves.is c.in_ok-did.ensures in
    let same =
    left_same c.args.setup.now c.args.cluster.now c.args.client c.args.command.now c.requires.of c.args.shard c.in_ok-show_filed.ensures.there c.requires.served.reached c.act_at.new.cluster
    c.args.held.stamp c.in-Leaves.to c.in-Leaves.document became in
    subst (λ k. IfOk c.move_to.result (IsTurn c.args.setup.now k c.move_to.new.cluster c.args.client)) same c.move_to.ensures
