use Rattle.std.proofs.Common.{arith}
use Rattle.resh_filter.specs.Filters.{matches}
use Rattle.resh_model.specs.declared.collection.Entry.{Entry}
use Rattle.resh_model.proofs.answers.Showing.{shown_more}
use Rattle.resh_model.proofs.answer.first.Goals as goal

pub loop-entry-preserved : goal.loop-entry-preserved
loop-entry-preserved c =
    shown_more (λ (e : Entry). e.document) (matches c.args.wanted.now) 10 c.args.entries.now c.loop-entry.entry-index c.entry-item.result c.loop-entry.first c.show.new.first (omega arith) c.entry-item.is c.loop-entry.invariant c.in_ok-show.ensures
