use Rattle.std.proofs.Common.{◌≡◌, map}
use Rattle.resh_feed.specs.Items.{fetched_item}
use Rattle.resh_fetcher.proofs.items.fetched_items.Given as goal

abbrev pub invariant-loop-entry : goal.invariant-loop-entry
invariant-loop-entry l = l.items.items ≡ map fetched_item l.yielded
