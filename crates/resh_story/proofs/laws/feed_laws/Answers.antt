use Rattle.resh_story.proofs.Feeding.{feeds_end, feeds_grow, feeds_tell, keeps_finals}
use Rattle.resh_story.proofs.Logging.{keeps_log}
use Rattle.resh_story.proofs.laws.feed_laws.Goals as goal

pub returns-clause-finals : goal.returns-clause-finals
returns-clause-finals c = keeps_finals

pub returns-clause-tells : goal.returns-clause-tells
returns-clause-tells c = feeds_tell

pub returns-clause-grows : goal.returns-clause-grows
returns-clause-grows c = feeds_grow

pub returns-clause-ends : goal.returns-clause-ends
returns-clause-ends c = feeds_end

pub returns-clause-logs : goal.returns-clause-logs
returns-clause-logs c = keeps_log
