use Rattle.resh_rules.proofs.Writing.{ok_then, put_count, put_written}
use Rattle.resh_rules.proofs.shelf.put.Goals as goal

pub returns-clause-written : goal.returns-clause-written
returns-clause-written c = put_written _ _ _ _ (ok_then c.insert.result _ (c.insert.ensures.room c.requires) c.insert.ensures.ok)

pub returns-clause-count : goal.returns-clause-count
returns-clause-count c = put_count c.args.stash.now.documents _ c.args.id c.args.document (ok_then c.insert.result _ (c.insert.ensures.room c.requires) c.insert.ensures.ok)
