use Rattle.resh_versions.proofs.ChainLaws.{walked_more, keeps_last, drops_last}
use Rattle.resh_versions.proofs.chain.useless_at.Goals as goal

pub returns-in-Some-clause-pruned : goal.returns-in-Some-clause-pruned
returns-in-Some-clause-pruned c = keeps_last _ _ _ _ c.in-len1-up.len_at_least c.version-item.is c.loop-rest.invariant c.if-version-time.true _ c.in-Some.is

pub returns-in-None-clause-pruned : goal.returns-in-None-clause-pruned
returns-in-None-clause-pruned c = drops_last _ _ _ _ c.in-len1-up.len_at_least c.version-item.is c.loop-rest.invariant c.if-version-time.true c.in-None.is

pub loop-rest-preserved : goal.loop-rest-preserved
loop-rest-preserved c = walked_more _ _ _ _ c.in-len1-up.len_at_least c.version-item.is c.loop-rest.invariant c.if-version-time.false
