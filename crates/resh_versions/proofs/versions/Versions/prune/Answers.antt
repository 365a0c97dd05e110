use Rattle.std.proofs.Common.{◌∙◌, ◌≡◌, ◌≤◌, ap, subst}
use Rattle.resh_versions.specs.Standing.{VersionsOf, at, filed, now, pruned, pruned_chains}
use Rattle.resh_versions.proofs.Pruning.{prunes_unseen}
use Rattle.resh_versions.proofs.versions.Versions.prune.Goals as goal

new_is : (c : goal.After-prune_chains) → ◌≡◌ {A = VersionsOf} (record { chains = filed c.prune_chains.new.chains; floor = c.max-self-inside.result }) (pruned c.args.time c.args.self.now)
new_is c =
    (λ i. record { chains = (c.prune_chains.ensures.pruned ∙ ap (λ f. pruned_chains f (filed c.self.inside.chains)) c.max-self-inside.ensures) i; floor = c.max-self-inside.ensures i })
    ∙ ap (pruned c.args.time) c.self.view_is

pub returns-clause-readings : goal.returns-clause-readings
returns-clause-readings c t id le = ap (λ s. at s t id) (new_is c) ∙ prunes_unseen.readings c.args.self.now c.args.time t id (subst (λ s. s.floor ≤ t) (new_is c) le)

pub returns-clause-now : goal.returns-clause-now
returns-clause-now c id = ap (λ s. now s id) (new_is c) ∙ prunes_unseen.now c.args.self.now c.args.time id
