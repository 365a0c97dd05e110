use Rattle.std.proofs.Common.{ℕ, [], ◌∷◌, length}
use Rattle.resh_shard.specs.Writes.{shard_id}
use Rattle.resh_core.specs.Sweeping.{link_trials}
use Rattle.resh_core.proofs.TrialLaws.{tried_more, tried_none}
use Rattle.resh_core.proofs.sweeping.try_recipients.Goals as goal

pub loop-recipient-init : goal.loop-recipient-init
loop-recipient-init g c = tried_none _ _ _ c.requires.sound

pub loop-recipient-preserved : goal.loop-recipient-preserved
loop-recipient-preserved g c =
    tried_more _ (λ (x : ℕ). link_trials c.args.setup.now (shard_id x) (length c.args.setup.now.shards)) _ _ _ _ _ _ _ c.loop-recipient.invariant c.in_ok-try_links.ensures

pub try_links-requires : goal.try_links-requires
try_links-requires g c = record { sound = c.loop-recipient.invariant.sound }
