use Rattle.std.proofs.Common.{◌≡◌, ◌++◌, map}
use Rattle.std.specs.List.{range_with_len}
use Rattle.resh_cells.specs.declared.cell.Cell.TheVariants.{Link}
use Rattle.resh_core.proofs.holding.add_links.Given as goal

abbrev pub invariant-loop-donor : goal.invariant-loop-donor
invariant-loop-donor l = l.cells.items ≡ l.initial.cells.items ++ map (Link l.recipient.0) (range_with_len 0 l.donor)
