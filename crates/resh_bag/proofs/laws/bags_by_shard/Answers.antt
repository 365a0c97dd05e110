use Rattle.resh_bag.proofs.shards.ByShard.{leaves_other_parts, moves_by_halves, reads_by_shard}
use Rattle.resh_bag.proofs.laws.bags_by_shard.Goals as goal

pub returns-clause-reads : goal.returns-clause-reads
returns-clause-reads c = reads_by_shard

pub returns-clause-others : goal.returns-clause-others
returns-clause-others c = leaves_other_parts

pub returns-clause-halves : goal.returns-clause-halves
returns-clause-halves c = moves_by_halves
