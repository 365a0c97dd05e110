use Rattle.std.proofs.Common.{◌≡◌, true, map}
use Rattle.std.specs.List.{range_with_len}
use Rattle.resh_oplog.specs.Logs.{is_above, last_mark}
use Rattle.resh_shard.specs.Shards.{final_entry}
use Rattle.resh_shard.specs.Writes.{with_entries}
use Rattle.resh_shard.proofs.logging.log_finals.Given as goal

abbrev pub invariant-loop-shard : goal.invariant-loop-shard
invariant-loop-shard l = record {
  logged : l.log ≡ with_entries l.initial.log (map (final_entry l.initial.log.donor l.stamp) (range_with_len 0 l.shard));
  next : is_above (last_mark l.log.entries) (record { stamp = l.stamp; part = l.shard }) ≡ true;
}
