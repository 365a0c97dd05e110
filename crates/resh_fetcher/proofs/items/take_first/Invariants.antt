use Rattle.std.proofs.Common.{◌≡◌}
use Rattle.resh_feed.specs.Items.{past_all}
use Rattle.resh_fetcher.proofs.items.take_first.Given as goal

abbrev pub invariant-loop-item : goal.invariant-loop-item
invariant-loop-item l = l.reading ≡ past_all l.fn.start l.yielded
