use Rattle.std.proofs.Common.{◌≡◌, map}
use Rattle.resh_feed.specs.declared.item.Item.{Item}
use Rattle.resh_fetcher.proofs.items.first_whats.Given as goal

abbrev pub invariant-loop-item : goal.invariant-loop-item
invariant-loop-item l = l.whats.items ≡ map (λ (item : Item). item.what) (map (λ b. b.now) l.yielded)
