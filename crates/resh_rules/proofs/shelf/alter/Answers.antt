use Rattle.resh_rules.proofs.Writing.{alter_count, alter_written}
use Rattle.resh_rules.proofs.shelf.alter.Goals as goal

pub returns-clause-written : goal.returns-clause-written
returns-clause-written c = alter_written c.args.stash.now.documents c.apply.new.self.documents c.args.id.now c.args.change.now c.in_ok-apply.ensures.ok

pub returns-clause-count : goal.returns-clause-count
returns-clause-count c = alter_count c.args.stash.now.documents c.apply.new.self.documents c.args.id.now c.args.change.now c.in_ok-apply.ensures.ok
