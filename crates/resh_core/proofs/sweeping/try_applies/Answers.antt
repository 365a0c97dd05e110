use Rattle.std.proofs.Common.{sym, ◌∙◌}
use Rattle.resh_core.proofs.TrialLaws.{applied_end, applied_more, applied_none, apply_falls}
use Rattle.resh_core.proofs.sweeping.try_applies.Goals as goal

pub applies-init : goal.applies-init
applies-init g c = applied_none _ _ _ _ _ _ c.requires.sound

pub applies-preserved : goal.applies-preserved
applies-preserved g c =
    applied_more _ _ _ _ _ _ _ _ _ _ _ c.applies.invariant (sym c.goes_on.ensures ∙ c.applies-test.true)
    c.in_ok-_lines.ensures.stepped c.in_ok-_lines.ensures.sound

pub applies-smaller : goal.applies-smaller
applies-smaller g c =
    apply_falls _ _ _ _ _ _ _ _ _ c.applies.invariant.sound (sym c.goes_on.ensures ∙ c.applies-test.true)
    c.in_ok-_lines.ensures.stepped

pub step-requires : goal.step-requires
step-requires g c = record { sound = c.applies.invariant.sound }

pub returns : goal.returns
returns g c = applied_end _ _ _ _ _ _ _ _ c.applies.invariant (sym c.goes_on.ensures ∙ c.applies-test.false)
