use Rattle.std.proofs.Common.{sym, ◌∙◌}
use Rattle.resh_core.proofs.TrialLaws.{tried_idle, tried_step}
use Rattle.resh_core.proofs.sweeping.try_step.Goals as goal

pub returns-then-not-may_step : goal.returns-then-not-may_step
returns-then-not-may_step g c = tried_idle _ _ _ _ c.requires.sound (sym c.may_step.ensures ∙ c.if-not-may_step.true)

pub returns : goal.returns
returns g c = tried_step _ _ _ _ _ _ _ c.in_ok-_lines.ensures.stepped c.in_ok-_lines.ensures.sound
