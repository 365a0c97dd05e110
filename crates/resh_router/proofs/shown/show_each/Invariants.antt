use Rattle.std.proofs.Common.{◌≡◌, ◌++◌, map}
use Rattle.resh_router.specs.Merging.{shown_from}
use Rattle.resh_router.proofs.shown.show_each.Given as goal

abbrev pub invariant-loop-document : goal.invariant-loop-document
invariant-loop-document l = l.shown.items ≡ l.fn.shown.items ++ map (shown_from l.fn.shard) l.yielded
