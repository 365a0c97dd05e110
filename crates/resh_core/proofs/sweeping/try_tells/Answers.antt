use Rattle.std.proofs.Common.{ℕ, [], ◌∷◌, length}
use Rattle.resh_shard.specs.Writes.{shard_id}
use Rattle.resh_setup.specs.declared.event.Event.TheVariants.{Tell}
use Rattle.resh_events.specs.Sweep.{step}
use Rattle.resh_core.proofs.TrialLaws.{tried_more, tried_none}
use Rattle.resh_core.proofs.sweeping.try_tells.Goals as goal

pub loop-shard-init : goal.loop-shard-init
loop-shard-init g c = tried_none _ _ _ c.requires.sound

pub loop-shard-preserved : goal.loop-shard-preserved
loop-shard-preserved g c =
    tried_more _ (λ (x : ℕ). step (Tell (shard_id x)) ∷ []) _ _ _ _ _ _ _ c.loop-shard.invariant c.in_ok-try_step.ensures

pub try_step-requires : goal.try_step-requires
try_step-requires g c = record { sound = c.loop-shard.invariant.sound }
