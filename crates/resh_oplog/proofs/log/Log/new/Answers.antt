use Rattle.std.proofs.Common.{sym, subst}
use Rattle.resh_oplog.specs.Logs.{IsLog}
use Rattle.resh_oplog.proofs.Rising.{no_entries}
use Rattle.resh_oplog.proofs.log.Log.new.Goals as goal

pub invariant_of-result : goal.invariant_of-result
invariant_of-result c = subst IsLog (sym c.new.ensures.items) no_entries
