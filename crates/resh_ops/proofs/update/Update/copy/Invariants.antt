use Rattle.std.proofs.Common.{◌≡◌, take}
use Rattle.resh_ops.proofs.update.Update.copy.Given as goal

abbrev pub invariant-loop-action : goal.invariant-loop-action
invariant-loop-action l = l.copies.items ≡ take l.action-index l.actions
