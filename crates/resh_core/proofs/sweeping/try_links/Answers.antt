use Rattle.std.proofs.Common.{ℕ, [], ◌∷◌, length}
use Rattle.resh_shard.specs.Writes.{shard_id}
use Rattle.resh_events.specs.Sweep.{link_round}
use Rattle.resh_core.proofs.TrialLaws.{tried_more, tried_none}
use Rattle.resh_core.proofs.sweeping.try_links.Goals as goal

pub loop-donor-init : goal.loop-donor-init
loop-donor-init g c = tried_none _ _ _ c.requires.sound

pub loop-donor-preserved : goal.loop-donor-preserved
loop-donor-preserved g c =
    tried_more _ (λ (x : ℕ). link_round c.args.setup.now c.args.recipient (shard_id x)) _ _ _ _ _ _ _ c.loop-donor.invariant c.in_ok-try_link.ensures

pub try_link-requires : goal.try_link-requires
try_link-requires g c = record { sound = c.loop-donor.invariant.sound }
