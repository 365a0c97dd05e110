use Rattle.std.proofs.Common.{◌≡◌, eqb, take, filter, map}
use Rattle.resh_chunks.specs.Chunks.{owner_of}
use Rattle.resh_model.proofs.plain.part_of.Given as goal

abbrev pub invariant-loop-entry : goal.invariant-loop-entry
invariant-loop-entry l = l.part.items ≡ filter (λ d. eqb (owner_of l.chunks d) l.shard) (map (λ e. e.document) (take l.entry-index l.entries))
