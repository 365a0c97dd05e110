use Rattle.resh_versions.proofs.Pruning.{prunes_unseen}
use Rattle.resh_versions.proofs.Storing.{stores_last}
use Rattle.resh_versions.proofs.WriteLaws.{adds_version, keeps_filed, reads_now, removes_one, starts_empty, takes_back}
use Rattle.resh_versions.proofs.laws.version_laws.Goals as goal

pub returns-clause-adds : goal.returns-clause-adds
returns-clause-adds c = adds_version

pub returns-clause-removes : goal.returns-clause-removes
returns-clause-removes c = removes_one

pub returns-clause-takes_back : goal.returns-clause-takes_back
returns-clause-takes_back c = takes_back

pub returns-clause-reads_now : goal.returns-clause-reads_now
returns-clause-reads_now c = reads_now

pub returns-clause-prunes : goal.returns-clause-prunes
returns-clause-prunes c = prunes_unseen

pub returns-clause-stores : goal.returns-clause-stores
returns-clause-stores c = stores_last

pub returns-clause-starts : goal.returns-clause-starts
returns-clause-starts c = starts_empty

pub returns-clause-filed : goal.returns-clause-filed
returns-clause-filed c = keeps_filed
