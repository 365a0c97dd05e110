use Rattle.resh_core.proofs.SoundLaws.{sound_stepped}
use Rattle.resh_core.proofs.stepping.step.Goals as goal

pub returns-clause-sound : goal.returns-clause-sound
returns-clause-sound g c =
    sound_stepped c.schedule_laws.ensures.keeps c.leads_on.ensures.stays _ _ _ _ _ _ _ c.requires.sound c.in_ok-lines.ensures

pub make_step-requires : goal.make_step-requires
make_step-requires g c = record { of = c.requires.sound.of }
