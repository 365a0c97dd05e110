use Rattle.std.proofs.Common.{ap, subst, ◌∙◌}
use Rattle.resh_shard.specs.Shards.{taken_in, taken_out}
use Rattle.resh_cells.specs.Cells.{on_shard, with_shard}
use Rattle.resh_asking.specs.Steps.{HasMoved}
use Rattle.resh_asking.proofs.Answering.{duplicate_turn, in_move_turn, moved_turn}
use Rattle.resh_asking.proofs.moving.carry.Goals as goal

pub returns-in-Moved : goal.returns-in-Moved
returns-in-Moved c =
    let has = subst (HasMoved c.args.held.stamp c.args.from c.args.to c.filter_id-id.result.now c.args.document c.args.cluster.now c.move_between.new.cluster) c.in-Moved.is c.in_ok-what.ensures in
    moved_turn c.args.setup.now c.args.cluster.now c.args.client c.args.command.now c.requires.of c.args.from c.requires.leaves.there c.requires.reached c.args.to c.args.document c.requires.leaves
    c.args.held c.requires.carried c.answer.new.cluster c.move_between.new.cluster c.in_ok-moved-in-Moved.moved has.0
    (has.1
    ∙ ap (λ id. on_shard c.args.from (with_shard (taken_out c.args.held.stamp id)) (on_shard c.args.to (with_shard (taken_in c.args.held.stamp c.args.document)) c.args.cluster.now)) c.filter_id-id.ensures)
    c.in_ok-moved-in-Moved.ensures.shows c.in_ok-moved-in-Moved.ensures.changed

pub returns-in-Duplicate : goal.returns-in-Duplicate
returns-in-Duplicate c =
    let has = subst (HasMoved c.args.held.stamp c.args.from c.args.to c.filter_id-id.result.now c.args.document c.args.cluster.now c.move_between.new.cluster) c.in-Duplicate.is c.in_ok-what.ensures in
    duplicate_turn c.args.setup.now c.args.cluster.now c.args.client c.args.command.now c.requires.of c.args.from c.requires.leaves.there c.requires.reached c.args.to c.args.document c.requires.leaves
    c.args.held c.requires.carried c.answer-in-Duplicate.new.cluster c.move_between.new.cluster c.in_ok-kept-in-Duplicate.kept has.0 has.1 c.in_ok-kept-in-Duplicate.ensures.shows
    c.in_ok-kept-in-Duplicate.ensures.changed

pub returns : goal.returns
returns c =
    let has = subst (HasMoved c.args.held.stamp c.args.from c.args.to c.filter_id-id.result.now c.args.document c.args.cluster.now c.move_between.new.cluster) c.in-Wants.is c.in_ok-what.ensures in
    in_move_turn c.args.setup.now c.args.cluster.now c.args.client c.args.command.now c.requires.of c.args.from c.requires.leaves.there c.requires.reached c.args.to c.args.document c.requires.leaves
    c.args.held c.requires.carried c.refuse.new.cluster c.move_between.new.cluster c.in_ok-refused-in-Wants.refused has c.in_ok-refused-in-Wants.ensures.shows c.in_ok-refused-in-Wants.ensures.changed
