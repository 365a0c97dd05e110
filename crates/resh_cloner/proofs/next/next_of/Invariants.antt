use Rattle.std.proofs.Common.{◌≡◌, map}
use Rattle.resh_cloner.proofs.next.next_of.Given as goal

abbrev pub invariant-loop-document : goal.invariant-loop-document
invariant-loop-document l = l.documents.items ≡ map (λ b. b.now) l.yielded
