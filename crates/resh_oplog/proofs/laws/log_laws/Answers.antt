use Rattle.resh_oplog.proofs.Contents.{says_whole}
use Rattle.resh_oplog.proofs.Later.{reads_later}
use Rattle.resh_oplog.proofs.Rising.{says_fit}
use Rattle.resh_oplog.proofs.laws.log_laws.Goals as goal

pub returns-clause-whole : goal.returns-clause-whole
returns-clause-whole c = says_whole

pub returns-clause-fits : goal.returns-clause-fits
returns-clause-fits c = says_fit

pub returns-clause-later : goal.returns-clause-later
returns-clause-later c = reads_later
