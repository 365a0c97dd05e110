use Rattle.std.proofs.Common.{◌≡◌, map}
use Rattle.resh_feed.specs.Items.{cloned_item}
use Rattle.resh_fetcher.proofs.items.cloned_items.Given as goal

abbrev pub invariant-loop-document : goal.invariant-loop-document
invariant-loop-document l = l.items.items ≡ map cloned_item l.yielded
