use Rattle.std.proofs.Common.{◌≡◌, map, take, length}
use Rattle.resh_feed.specs.declared.item.Item.{Item}
use Rattle.resh_feed.specs.Lanes.{counts_after}
use Rattle.resh_split.proofs.counts.count_first.Given as goal

abbrev pub invariant-loop-n : goal.invariant-loop-n
invariant-loop-n l = (l.counts.items ≡ counts_after l.lanes l.fn.counts.items (take l.n (map (λ (item : Item). item.what) l.link.buffer))) × (length l.counts.items ≡ l.lanes)
