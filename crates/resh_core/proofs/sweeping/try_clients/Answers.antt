use Rattle.std.proofs.Common.{ℕ, [], ◌∷◌, length}
use Rattle.resh_setup.specs.declared.event.Event.TheVariants.{Client}
use Rattle.resh_events.specs.Sweep.{step}
use Rattle.resh_core.proofs.TrialLaws.{tried_more, tried_none}
use Rattle.resh_core.proofs.sweeping.try_clients.Goals as goal

pub loop-client-init : goal.loop-client-init
loop-client-init g c = tried_none _ _ _ c.requires.sound

pub loop-client-preserved : goal.loop-client-preserved
loop-client-preserved g c =
    tried_more _ (λ (x : ℕ). step (Client x) ∷ []) _ _ _ _ _ _ _ c.loop-client.invariant c.in_ok-try_step.ensures

pub try_step-requires : goal.try_step-requires
try_step-requires g c = record { sound = c.loop-client.invariant.sound }
