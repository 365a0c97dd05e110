use Rattle.resh_versions.proofs.Filing.{stored_first}
use Rattle.resh_versions.proofs.versions.store.Goals as goal

pub returns-clause-stored : goal.returns-clause-stored
returns-clause-stored c =
    (stored_first c.args.chains.now c.insert.new.self c.args.time c.in_ok-id.id c.args.document c.in_ok-of.field-0 c.requires.kept c.insert.ensures.ordered c.in_ok-insert.ensures.updates.0 c.in_ok-of.ensures c.in_ok-id.ensures c.requires.whole).0

pub returns-clause-kept : goal.returns-clause-kept
returns-clause-kept c =
    (stored_first c.args.chains.now c.insert.new.self c.args.time c.in_ok-id.id c.args.document c.in_ok-of.field-0 c.requires.kept c.insert.ensures.ordered c.in_ok-insert.ensures.updates.0 c.in_ok-of.ensures c.in_ok-id.ensures c.requires.whole).1
