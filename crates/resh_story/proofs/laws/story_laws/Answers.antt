use Rattle.resh_story.proofs.Acting.{commands_act}
use Rattle.resh_story.proofs.Keeping.{keeps_naming, keeps_story, opens_story}
use Rattle.resh_story.proofs.Writes.{writes_once}
use Rattle.resh_story.proofs.laws.story_laws.Goals as goal

pub returns-clause-opens : goal.returns-clause-opens
returns-clause-opens c = opens_story

pub returns-clause-writes : goal.returns-clause-writes
returns-clause-writes c = writes_once

pub returns-clause-keeps : goal.returns-clause-keeps
returns-clause-keeps c = keeps_story

pub returns-clause-names : goal.returns-clause-names
returns-clause-names c = keeps_naming

pub returns-clause-acts : goal.returns-clause-acts
returns-clause-acts c = commands_act
