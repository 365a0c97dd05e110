use Rattle.std.proofs.Common.{◌≡◌, take, filter, map}
use Rattle.resh_filter.specs.Filters.{matches}
use Rattle.resh_model.proofs.answer.first.Given as goal

abbrev pub invariant-loop-entry : goal.invariant-loop-entry
invariant-loop-entry l = l.first ≡ take 10 (filter (matches l.wanted) (map (λ e. e.document) (take l.entry-index l.entries)))
