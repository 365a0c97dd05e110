use Rattle.std.proofs.Common.{◌≤◌, ◌∙◌, length, ap, sym, subst}
use Rattle.resh_oplog.specs.Logs.{LogOf}
use Rattle.resh_shard.specs.Shards.{without_entries}
use Rattle.resh_shard.proofs.Following.{finals_more, finals_next, finals_there, finals_undone}
use Rattle.resh_shard.proofs.logging.log_finals.Goals as goal

pub undo-requires : goal.undo-requires
undo-requires c =
    subst (λ (l : LogOf). c.loop-shard.shard ≤ length l.entries) (sym c.in-Err.ensures.unchanged)
    (finals_there c.args.log.now c.args.stamp c.loop-shard.shard c.loop-shard.log c.loop-shard.invariant.logged)

pub returns-in-Err-clause-unchanged : goal.returns-in-Err-clause-unchanged
returns-in-Err-clause-unchanged c =
    c.undo.ensures ∙ ap (without_entries c.loop-shard.shard) c.in-Err.ensures.unchanged
    ∙ finals_undone c.args.log.now c.args.stamp c.loop-shard.shard c.loop-shard.log c.loop-shard.invariant.logged

pub loop-shard-preserved : goal.loop-shard-preserved
loop-shard-preserved c = record {
  logged = finals_more c.args.log.now c.args.stamp c.loop-shard.shard c.loop-shard.log c.loop-shard.invariant.logged c.log_final.new.log c.in_default.ensures.ok;
  next = finals_next c.args.log.now c.args.stamp c.loop-shard.shard c.loop-shard.log c.loop-shard.invariant.logged c.log_final.new.log c.in_default.ensures.ok;
}
