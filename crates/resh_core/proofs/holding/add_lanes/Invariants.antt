use Rattle.std.proofs.Common.{◌≡◌, ◌++◌, map}
use Rattle.std.specs.List.{range_with_len}
use Rattle.resh_cells.specs.declared.cell.Cell.TheVariants.{Lane}
use Rattle.resh_core.proofs.holding.add_lanes.Given as goal

abbrev pub invariant-loop-lane : goal.invariant-loop-lane
invariant-loop-lane l = l.cells.items ≡ l.initial.cells.items ++ map (Lane l.recipient.0) (range_with_len 0 l.lane)
