use Rattle.std.proofs.Common.{◌≡◌, refl, rules}
use Rattle.resh_versions.proofs.Pruning.{pruned_pairs, pruned_kept}
use Rattle.resh_versions.proofs.versions.prune_chains.Goals as goal

pub returns-clause-pruned : goal.returns-clause-pruned
returns-clause-pruned c =
    (pruned_kept c.args.time c.args.chains.now c.retain.new.self c.requires c.retain.ensures.ordered
    (pruned_pairs _ (λ f. f.0.now ≡ c.args.time) c.args.time (λ f k v b w g i t. search rules) _ _ _ refl c.retain.ensures.filtered)).0

pub returns-clause-kept : goal.returns-clause-kept
returns-clause-kept c =
    (pruned_kept c.args.time c.args.chains.now c.retain.new.self c.requires c.retain.ensures.ordered
    (pruned_pairs _ (λ f. f.0.now ≡ c.args.time) c.args.time (λ f k v b w g i t. search rules) _ _ _ refl c.retain.ensures.filtered)).1
