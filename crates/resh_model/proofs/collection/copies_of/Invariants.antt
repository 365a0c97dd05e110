use Rattle.std.proofs.Common.{◌≡◌, take, map}
use Rattle.resh_model.proofs.collection.copies_of.Given as goal

abbrev pub invariant-loop-entry : goal.invariant-loop-entry
invariant-loop-entry l = l.copies.items ≡ map (λ e. e.document) (take l.entry-index l.entries)
