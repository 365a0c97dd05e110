use Rattle.std.proofs.Common.{sym, subst}
use Rattle.resh_oplog.specs.Logs.{IsLog}
use Rattle.resh_oplog.proofs.Rising.{fewer}
use Rattle.resh_oplog.proofs.log.Log.undo.Goals as goal

pub invariant_of-self : goal.invariant_of-self
invariant_of-self c = subst IsLog (sym c.truncate.ensures.items) (fewer c.self.inside.entries.items _ c.self.invariant)
