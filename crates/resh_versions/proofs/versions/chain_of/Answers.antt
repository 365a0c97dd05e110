use Rattle.std.proofs.Common.{◌∙◌, sym}
use Rattle.resh_versions.proofs.Filing.{get_filed, found_chain}
use Rattle.resh_versions.proofs.versions.chain_of.Goals as goal

pub returns-clause-found : goal.returns-clause-found
returns-clause-found c = c.get.ensures.value ∙ sym (get_filed c.args.chains.now c.args.id.now c.requires.ordered)

pub returns-clause-named : goal.returns-clause-named
returns-clause-named c = found_chain c.args.chains.now c.args.id.now c.requires c.get.result c.get.ensures.value
