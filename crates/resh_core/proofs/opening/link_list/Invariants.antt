use Rattle.std.proofs.Common.{◌≡◌, map}
use Rattle.std.specs.List.{range_with_len}
use Rattle.resh_events.specs.Opening.{opening_link}
use Rattle.resh_core.proofs.opening.link_list.Given as goal

abbrev pub invariant-loop-donor : goal.invariant-loop-donor
invariant-loop-donor l = l.cells.items ≡ map (opening_link l.setup l.recipient) (range_with_len 0 l.donor)
