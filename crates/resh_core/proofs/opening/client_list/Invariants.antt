use Rattle.std.proofs.Common.{◌≡◌, replicate}
use Rattle.resh_cells.specs.Cells.{no_client}
use Rattle.resh_core.proofs.opening.client_list.Given as goal

abbrev pub invariant-loop : goal.invariant-loop
invariant-loop l = l.cells.items ≡ replicate l.counter no_client
