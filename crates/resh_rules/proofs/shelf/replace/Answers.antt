use Rattle.resh_rules.proofs.Writing.{held_then, put_written}
use Rattle.resh_rules.proofs.shelf.replace.Goals as goal

pub returns-clause-written : goal.returns-clause-written
returns-clause-written c = put_written _ _ _ _ (held_then c.insert.result _ _ c.insert.ensures.new c.requires c.insert.ensures.ok)
