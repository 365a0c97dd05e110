use Rattle.std.proofs.Common.{ap, ◌∙◌}
use Rattle.resh_shard.specs.Shards.{undone_in}
use Rattle.resh_cells.specs.Cells.{on_shard, with_shard}
use Rattle.resh_asking.proofs.Halved.{stayed_in, undone, went_out}
use Rattle.resh_asking.proofs.moving.go_on.Goals as goal

pub returns-then-is_out : goal.returns-then-is_out
returns-then-is_out c =
    went_out c.args.cluster.now c.take_out_at.new.cluster c.args.from c.args.stamp c.args.id.now c.in_ok-is_out.is_out c.in_ok-is_out.ensures c.if-is_out.true

pub returns : goal.returns
returns c =
    undone c.take_out_at.new.cluster c.undo_at.new.cluster c.args.to c.args.new_id.now c.in_ok-undo_at.ensures
    ∙ ap (on_shard c.args.to (with_shard (undone_in c.args.new_id.now)))
    (stayed_in c.args.cluster.now c.take_out_at.new.cluster c.args.from c.args.stamp c.args.id.now c.in_ok-is_out.is_out c.in_ok-is_out.ensures c.if-is_out.false)
