use Rattle.std.proofs.Common.{◌∙◌, arith}
use Rattle.resh_filter.specs.Filters.{matches}
use Rattle.resh_model.proofs.answers.Showing.{shown_full}
use Rattle.resh_model.proofs.answer.show.Goals as goal

pub returns-then-len-ge-MOST_SHOWN : goal.returns-then-len-ge-MOST_SHOWN
returns-then-len-ge-MOST_SHOWN c = shown_full (matches c.args.wanted.now) 10 c.args.first.now c.args.document.now c.requires (omega arith)
