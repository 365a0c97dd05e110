use Rattle.std.proofs.Common.{ℕ, [], ◌∷◌, length}
use Rattle.resh_events.specs.Sweep.{applying}
use Rattle.resh_core.proofs.TrialLaws.{tried_more, tried_none}
use Rattle.resh_core.proofs.sweeping.try_lanes.Goals as goal

pub loop-lane-init : goal.loop-lane-init
loop-lane-init g c = tried_none _ _ _ c.requires.sound

pub loop-lane-preserved : goal.loop-lane-preserved
loop-lane-preserved g c =
    tried_more _ (λ (x : ℕ). applying c.args.recipient c.args.donor x ∷ []) _ _ _ _ _ _ _ c.loop-lane.invariant c.in_ok-try_applies.ensures

pub try_applies-requires : goal.try_applies-requires
try_applies-requires g c = record { sound = c.loop-lane.invariant.sound }
