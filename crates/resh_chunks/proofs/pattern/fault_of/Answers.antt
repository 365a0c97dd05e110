use Rattle.resh_chunks.proofs.Keys.{one_name}
use Rattle.resh_chunks.proofs.pattern.fault_of.Goals as goal

pub returns-in-len1 : goal.returns-in-len1
returns-in-len1 c = one_name c.args.names.now c.in-len1.len_at_least c.in-len1.len_below
