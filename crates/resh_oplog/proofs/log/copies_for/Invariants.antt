use Rattle.std.proofs.Common.{◌≡◌, map}
use Rattle.resh_oplog.proofs.log.copies_for.Given as goal

abbrev pub invariant-loop-entry : goal.invariant-loop-entry
invariant-loop-entry l = l.copies.items ≡ map (λ b. b.now) l.yielded
