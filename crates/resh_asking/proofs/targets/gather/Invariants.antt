use Rattle.std.proofs.Common.{◌≡◌, take}
use Rattle.resh_asking.specs.Gathered.{own_parts}
use Rattle.resh_asking.proofs.targets.gather.Given as goal

abbrev pub invariant-loop-shard : goal.invariant-loop-shard
invariant-loop-shard l = record {
  parts : l.parts.items ≡ own_parts l.fn.cluster l.command (take l.shard-index l.shards);
  same : l.cluster ≡ l.fn.cluster;
}
