use Rattle.std.proofs.Common.{rules}
use Rattle.resh_shard.proofs.Following.{second_fits}
use Rattle.resh_shard.proofs.logging.rekey.Goals as goal

pub log_both_and_put-requires-clause-second : goal.log_both_and_put-requires-clause-second
log_both_and_put-requires-clause-second c =
    second_fits c.args.state.now.log.entries c.entry-delete.result c.entry-insert.result c.args.stamp (search rules) (search rules) (search rules)
