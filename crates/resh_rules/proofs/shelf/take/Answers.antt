use Rattle.resh_rules.proofs.Writing.{take_count, taken_written}
use Rattle.resh_rules.proofs.shelf.take.Goals as goal

pub returns-clause-written : goal.returns-clause-written
returns-clause-written c = taken_written _ _ _ c.remove.ensures.rest

pub returns-clause-count : goal.returns-clause-count
returns-clause-count c = take_count c.args.stash.now.documents _ c.args.id.now c.remove.ensures.rest
