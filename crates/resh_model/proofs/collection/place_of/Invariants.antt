use Rattle.std.proofs.Common.{◌-◌, map}
use Rattle.resh_bag.specs.Bag.{place_cmp}
use Rattle.resh_model.specs.Entries.{keyed}
use Rattle.resh_model.proofs.bags.SortedEntries.{IsBetween}
use Rattle.resh_model.proofs.collection.place_of.Given as goal

abbrev pub invariant-loop-low : goal.invariant-loop-low
invariant-loop-low l = IsBetween place_cmp (map keyed l.entries) (l.id, l.shard.0) l.low l.high

abbrev pub decreases-loop-low : goal.decreases-loop-low
decreases-loop-low l = l.high - l.low
